-- What documents score by the postings of a term, of a phrase, or of a range, that weren't passed.
use Rattle.std.specs.Prelude.{ℕ, ◌*◌, ◌^◌, [], Option, None, Some, if◌then◌else◌}
use Rattle.std.specs.Option.{option_map}
use Rattle.ii_base.specs.Entries.{Entry}
use Rattle.ii_base.specs.declared.doc_id.TheConstants.{TERMINATED}
use Rattle.ii_bm25.specs.Bm25.{bm25_score}
use Rattle.ii_bm25.specs.declared.bm25.TheConstants.{SCORE_ONE}
use Rattle.ii_docset.specs.Intersection.{has_doc}
use Rattle.ii_query.specs.Phrase.{parts_in}
use Rattle.ii_scorer.specs.Scorers.{ScorerState, bounds_below, scores_below}
use Rattle.ii_ranking.specs.declared.leaf_scorer.LeafScorer.{LeafScorer}
use Rattle.ii_ranking.specs.declared.leaf_scorer.LeafScorer.TheVariants.{Term, Phrase, Found}
use Rattle.ii_ranking.specs.declared.found_scorer.FoundScorer.{FoundScorer}
use Rattle.ii_ranking.specs.declared.phrase_scorer.PhraseScorer.{PhraseScorer}
use Rattle.ii_ranking.specs.declared.term_scorer.TermScorer.{TermScorer}
use Rattle.ii_ranking.specs.NormIds.{id_among}
use Rattle.ii_ranking.specs.Scores.{entry_at, if_occurs, phrase_count}

-- what a document scores by a term
abbrev pub score_by_term : TermScorer → ℕ → Option ℕ
score_by_term s doc = option_map (λ (e : Entry). bm25_score s.by.weight (id_among s.by.norms doc) e.term_freq) (entry_at s.cursor.rest doc)

-- what it scores by a phrase
abbrev pub score_by_phrase : PhraseScorer → ℕ → Option ℕ
score_by_phrase s doc = if_occurs (bm25_score s.weight (id_among s.norms doc)) (phrase_count s.slop s.first.part.rest (parts_in s.others.items) doc)

-- what it scores by documents that score 1.0
abbrev pub score_by_found : FoundScorer → ℕ → Option ℕ
score_by_found s doc = if has_doc s.cursor.rest doc then Some SCORE_ONE else None

-- a scorer that isn't made of others, with one bound of all documents and without lists in blocks
abbrev pub leaf_of : (ℕ → Option ℕ) → ℕ → ScorerState
leaf_of f most = record { scores = scores_below TERMINATED f; most = most; depth = 0; bounds = bounds_below TERMINATED (λ (doc : ℕ). most); lists = [] }

-- the scorer of a term: none scores more than the weight allows
abbrev pub term_state : TermScorer → ScorerState
term_state s = leaf_of (score_by_term s) (s.by.weight.weight * 2 ^ 16)

-- the scorer of a phrase, with the same bound
abbrev pub phrase_state : PhraseScorer → ScorerState
phrase_state s = leaf_of (score_by_phrase s) (s.weight.weight * 2 ^ 16)

-- the scorer of documents that score 1.0
abbrev pub found_state : FoundScorer → ScorerState
found_state s = leaf_of (score_by_found s) SCORE_ONE

-- the scorer of a term, of a phrase or of documents that score 1.0
abbrev pub leaf_state : LeafScorer → ScorerState
leaf_state (Term s) = term_state s
leaf_state (Phrase s) = phrase_state s
leaf_state (Found s) = found_state s

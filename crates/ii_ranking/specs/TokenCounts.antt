-- How often terms and phrases occur in a document, by the tokens of an index.
use Rattle.std.specs.Prelude.{◌≡◌, ℕ, Bool, ◌&&◌, List, [], ◌∷◌, count_by, if◌then◌else◌, is_some, map, min, true}
use Rattle.std.specs.List.Sorted.{IsNonDecreasingBy}
use Rattle.ii_base.specs.Options.{has_freq}
use Rattle.ii_base.specs.Schema.{SchemaEntry}
use Rattle.ii_base.specs.Terms.{TermState}
use Rattle.ii_bm25.specs.Statistics.{Statistics}
use Rattle.ii_definitions.specs.Fields.{option_of}
use Rattle.ii_definitions.specs.Tokens.{IndexToken}
use Rattle.ii_query_parser.specs.declared.query.PhraseTerm.{PhraseTerm}
use Rattle.ii_query_parser.specs.declared.query.Query.{Query}
use Rattle.ii_query_parser.specs.Queries.{follow, follow_near, is_text_key, is_token_of, keeps_positions, matches, phrase_has_positions}
use Rattle.ii_ranking.specs.Scores.{if_occurs, phrase_score, score_by, scored_by_tokens, term_score}
use Rattle.ii_ranking.specs.TokenScores.{token_score}

-- how many tokens of a document have the field and the key of a term
abbrev pub num_tokens_of : List IndexToken → TermState → ℕ → ℕ
num_tokens_of ts term doc = count_by (is_token_of term doc) ts

-- whether the number of a term's tokens is kept: its field keeps counts, and its tokens are of texts
abbrev pub keeps_counts : List SchemaEntry → List IndexToken → TermState → Bool
keeps_counts schema ts term = is_text_key term ts && has_freq (option_of schema term.field)

-- how often a term occurs in a document: the number of its tokens, at most 1 where that isn't kept
abbrev pub term_count : List SchemaEntry → List IndexToken → TermState → ℕ → ℕ
term_count schema ts term doc = if keeps_counts schema ts term then num_tokens_of ts term doc else min 1 (num_tokens_of ts term doc)

-- how often a phrase begins in a document: the number of tokens of its first term from which each other term occurs at its distance
abbrev pub phrase_starts : List IndexToken → TermState → List PhraseTerm → ℕ → ℕ
phrase_starts ts first others doc = if is_text_key first ts then count_by (λ (t : IndexToken). is_token_of first doc t && follow ts doc others t.position) ts else 0

-- how often a phrase within a slop begins in a document: the number of tokens of its first term from which each other term occurs near its distance
abbrev pub phrase_starts_within : ℕ → List IndexToken → TermState → List PhraseTerm → ℕ → ℕ
phrase_starts_within slop ts first others doc = if is_text_key first ts then count_by (λ (t : IndexToken). is_token_of first doc t && follow_near slop ts doc others t.position) ts else 0

-- Tokens are in the order of their documents.
abbrev pub AreOrdered : List IndexToken → Type 0
AreOrdered tokens = IsNonDecreasingBy (λ (t : IndexToken). t.doc) tokens

-- A document scores by a term as often as the term occurs in it.
abbrev pub TermsScoreByCounts : Type 0
TermsScoreByCounts = (schema : List SchemaEntry) (tokens : List IndexToken) (statistics : Statistics) (term : TermState) (doc : ℕ) → AreOrdered tokens
    → term_score (scored_by_tokens schema tokens statistics) term doc ≡ if_occurs (score_by (scored_by_tokens schema tokens statistics) (term ∷ []) term.field doc) (term_count schema tokens term doc)

-- A document scores by a phrase as often as the phrase begins in it within its slop. Its fields keep positions.
abbrev pub PhrasesScoreByStarts : Type 0
PhrasesScoreByStarts = (schema : List SchemaEntry) (tokens : List IndexToken) (statistics : Statistics) (first : TermState) (others : List PhraseTerm) (slop doc : ℕ) → AreOrdered tokens → phrase_has_positions schema first others ≡ true
    → phrase_score (scored_by_tokens schema tokens statistics) first others slop doc
    ≡ if_occurs (score_by (scored_by_tokens schema tokens statistics) (first ∷ map (λ (o : PhraseTerm). o.term) others) first.field doc) (phrase_starts_within slop tokens first others doc)

-- With slop 0 a phrase begins where each other term occurs at its distance.
abbrev pub StartsAreExact : Type 0
StartsAreExact = (tokens : List IndexToken) (first : TermState) (others : List PhraseTerm) (doc : ℕ) → phrase_starts_within 0 tokens first others doc ≡ phrase_starts tokens first others doc

-- A document has a score exactly if it matches.
abbrev pub MatchesScore : Type 0
MatchesScore = (schema : List SchemaEntry) (tokens : List IndexToken) (statistics : Statistics) (query : Query) (doc : ℕ) → AreOrdered tokens → keeps_positions schema query ≡ true
    → is_some (token_score schema tokens statistics query doc) ≡ matches query tokens doc

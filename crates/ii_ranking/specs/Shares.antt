-- What the score of a document is made of.
use Rattle.std.specs.Prelude.{◌≡◌, ℕ, ◌==◌, ◌++◌, Bool, true, false, ◌&&◌, List, [], ◌∷◌, Option, None, Some, Result, Ok, Err, Vec, if◌then◌else◌, is_some, map, min, nat_lt}
use Rattle.std.specs.Global.{Global}
use Rattle.std.specs.List.{fold}
use Rattle.std.specs.Option.{option_map, option_to_list}
use Rattle.ii_io.specs.declared.faults.Fault.{Fault}
use Rattle.ii_io.specs.declared.faults.Fault.TheVariants.{OutOfMemory}
use Rattle.ii_base.specs.Entries.{Entry}
use Rattle.ii_base.specs.Terms.{TermState}
use Rattle.ii_base.specs.declared.doc_id.TheConstants.{TERMINATED}
use Rattle.ii_base.specs.declared.schema.index_record_option.IndexRecordOption.TheVariants.{WithFreqs, WithFreqsAndPositions}
use Rattle.ii_bm25.specs.Bm25.{weight}
use Rattle.ii_bm25.specs.Statistics.{idfs_of}
use Rattle.ii_bm25.specs.declared.bm25.TheConstants.{SCORE_ONE}
use Rattle.ii_query_parser.specs.declared.query.PhraseTerm.{PhraseTerm}
use Rattle.ii_query_parser.specs.Queries as queries
use Rattle.ii_query_parser.specs.Queries.{QueryTree, QueryTrees, tree_of}
use Rattle.ii_ranking.specs.declared.shares.Share.{Share}
use Rattle.ii_scorer.specs.Combinations.{add}
use Rattle.ii_ranking.specs.Scores.{Scored, entry_at, parts_of, phrase_count, score_by, tree_score}

-- A part of a query that a document matches, and what it adds to the document's score.
pub record ShareState : Type 0 where
  pub part : QueryTree
  pub weight : ℕ
  pub count : ℕ
  pub norm_id : ℕ
  pub score : ℕ

-- a share without its reference
abbrev pub share_of : Share → ShareState
share_of s = record { part = tree_of s.part.now; weight = s.weight; count = s.count; norm_id = s.fieldnorm_id; score = s.score }

-- the share of terms, or of the phrase of these, that occur so many times in a document
abbrev pub share_by : Scored → QueryTree → List TermState → ℕ → ℕ → ℕ → ShareState
share_by s part terms field doc count = record {
  part = part;
  weight = weight (idfs_of s.statistics terms);
  count = count;
  norm_id = s.norm_id field doc;
  score = score_by s terms field doc count;
}

-- the share of a part that always scores 1.0, if the document matches it
abbrev pub constant_share : QueryTree → Bool → Option ShareState
constant_share part matches = if matches then Some (record { part = part; weight = 0; count = 1; norm_id = 1; score = SCORE_ONE }) else None

-- the share of a term
abbrev pub term_share : Scored → TermState → ℕ → Option ShareState
term_share s term doc = option_map (λ (e : Entry). share_by s (queries.one_term term) (term ∷ []) term.field doc e.term_freq) (entry_at (s.entries WithFreqs term) doc)

-- the share of a count, if something occurs
abbrev pub share_if_occurs : (ℕ → ShareState) → ℕ → Option ShareState
share_if_occurs share_of_count count = if count == 0 then None else Some (share_of_count count)

-- the share of a phrase within a slop
abbrev pub phrase_share : Scored → TermState → List PhraseTerm → ℕ → ℕ → Option ShareState
phrase_share s first others slop doc =
    share_if_occurs (share_by s (queries.one_phrase first others slop) (first ∷ map (λ (o : PhraseTerm). o.term) others) first.field doc) (phrase_count slop (s.entries WithFreqsAndPositions first) (parts_of s others) doc)

-- whether there are shares
abbrev pub has_shares : List ShareState → Bool
has_shares [] = false
has_shares (share ∷ shares) = true

-- The shares of the parts of a query that a document matches, in the order of the query; none if it doesn't match the query.
abbrev mutual
  pub tree_shares : Scored → QueryTree → ℕ → List ShareState
  tree_shares s queries.nothing doc = []
  tree_shares s (queries.all_below n) doc = option_to_list (constant_share (queries.all_below n) (nat_lt doc (min n TERMINATED)))
  tree_shares s (queries.one_term term) doc = option_to_list (term_share s term doc)
  tree_shares s (queries.one_phrase first others slop) doc = option_to_list (phrase_share s first others slop doc)
  tree_shares s (queries.one_phrase_prefix phrase) doc = option_to_list (constant_share (queries.one_phrase_prefix phrase) (s.has_phrase_in phrase doc))
  tree_shares s (queries.one_range range) doc = option_to_list (constant_share (queries.one_range range) (s.has_in range doc))
  tree_shares s (queries.each_of qs) doc = if all_have_shares s qs doc then trees_shares s qs doc else []
  tree_shares s (queries.any_of qs) doc = trees_shares s qs doc
  tree_shares s (queries.without first other) doc = if has_shares (tree_shares s other doc) then [] else tree_shares s first doc

  pub trees_shares : Scored → QueryTrees → ℕ → List ShareState
  trees_shares s queries.no_tree doc = []
  trees_shares s (queries.tree q qs) doc = tree_shares s q doc ++ trees_shares s qs doc

  pub all_have_shares : Scored → QueryTrees → ℕ → Bool
  all_have_shares s queries.no_tree doc = true
  all_have_shares s (queries.tree q qs) doc = has_shares (tree_shares s q doc) && all_have_shares s qs doc

-- the sum of shares, at most 2^64 - 1; none if there are no shares
abbrev pub total : List ShareState → Option ℕ
total [] = None
total (share ∷ shares) = Some (fold add share.score (map (λ (s : ShareState). s.score) shares))

-- These shares are given; this fails only with `OutOfMemory`.
abbrev pub GivesShares : List ShareState → Result (Vec Share Global) Fault → Type 0
GivesShares shares (Ok given) = map share_of given.items ≡ shares
GivesShares shares (Err fault) = fault ≡ OutOfMemory

-- A document has shares exactly if it has a score.
abbrev pub ScoredHaveShares : Type 0
ScoredHaveShares = (s : Scored) (q : QueryTree) (doc : ℕ) → has_shares (tree_shares s q doc) ≡ is_some (tree_score s q doc)

-- The shares of a document add up to its score.
abbrev pub SharesAddUp : Type 0
SharesAddUp = (s : Scored) (q : QueryTree) (doc : ℕ) → tree_score s q doc ≡ total (tree_shares s q doc)

-- The bound of what a document scores by a query in an index.
use Rattle.std.specs.Prelude.{ℕ, List, [], ◌∷◌, Option, max}
use Rattle.ii_base.specs.Entries.{Entry}
use Rattle.ii_base.specs.Terms.{TermState}
use Rattle.ii_base.specs.declared.doc_id.TheConstants.{TERMINATED}
use Rattle.ii_base.specs.declared.schema.index_record_option.IndexRecordOption.TheVariants.{WithFreqs}
use Rattle.ii_bm25.specs.Bm25.{Bm25State, bm25_share, bm25_weight}
use Rattle.ii_bm25.specs.Statistics.{idfs_of}
use Rattle.ii_bm25.specs.declared.bm25.TheConstants.{SCORE_ONE}
use Rattle.ii_block_shares.specs.BlockShares.{bound_at, most_within, runs_of}
use Rattle.ii_query_parser.specs.declared.query.Query.{Query}
use Rattle.ii_query_parser.specs.Queries as queries
use Rattle.ii_query_parser.specs.Queries.{QueryTree, QueryTrees, tree_of}
use Rattle.ii_scorer.specs.Combinations.{add}
use Rattle.ii_ranking.specs.Listing.{scored_below}
use Rattle.ii_ranking.specs.Scores.{Scored, tree_score}

-- the weight of a term by the numbers of an index
abbrev pub one_weight : Scored → TermState → Bm25State
one_weight s term = bm25_weight (idfs_of s.statistics (term ∷ [])) s.statistics.num_docs (s.statistics.num_tokens term.field)

-- the share of a term's greatest score that an entry reaches
abbrev pub entry_share : Scored → TermState → Entry → ℕ
entry_share s term e = bm25_share (one_weight s term) (s.norm_id term.field e.doc) e.term_freq

-- the bound of a document by a term: the greatest score within the bound of its run in the term's list
abbrev pub term_bound : Scored → TermState → ℕ → ℕ
term_bound s term doc = most_within (one_weight s term).weight (bound_at (runs_of (entry_share s term) (s.entries WithFreqs term)) doc)

-- the greatest score of documents that are listed with their scores, 0 if there are none
abbrev pub greatest_listed : List (ℕ × ℕ) → ℕ
greatest_listed [] = 0
greatest_listed (d ∷ ds) = max d.0 (greatest_listed ds)

-- the greatest score of all documents
abbrev pub greatest_score : (ℕ → Option ℕ) → ℕ
greatest_score score = greatest_listed (scored_below TERMINATED score)

-- The bound of a document by a query: of a phrase and of a range the greatest score in the index, of and and or the sum.
abbrev mutual
  pub tree_bound : Scored → QueryTree → ℕ → ℕ
  tree_bound s queries.nothing doc = 0
  tree_bound s (queries.all_below n) doc = SCORE_ONE
  tree_bound s (queries.one_term term) doc = term_bound s term doc
  tree_bound s (queries.one_phrase first others slop) doc = greatest_score (tree_score s (queries.one_phrase first others slop))
  tree_bound s (queries.one_phrase_prefix phrase) doc = greatest_score (tree_score s (queries.one_phrase_prefix phrase))
  tree_bound s (queries.one_range range) doc = greatest_score (tree_score s (queries.one_range range))
  tree_bound s (queries.each_of qs) doc = trees_bound s qs doc
  tree_bound s (queries.any_of qs) doc = trees_bound s qs doc
  tree_bound s (queries.without first other) doc = tree_bound s first doc

  pub trees_bound : Scored → QueryTrees → ℕ → ℕ
  trees_bound s queries.no_tree doc = 0
  trees_bound s (queries.tree q qs) doc = add (tree_bound s q doc) (trees_bound s qs doc)

-- the bound of a document by a program's query
abbrev pub query_bound : Scored → Query → ℕ → ℕ
query_bound s query doc = tree_bound s (tree_of query) doc

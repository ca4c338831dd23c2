-- The documents of the terms of a query, in the order of the query.
use Rattle.std.specs.Prelude.{ℕ, List, [], ◌∷◌, ◌++◌, Result, Ok, Err, map}
use Rattle.ii_io.specs.declared.faults.Part.{Part}
use Rattle.ii_base.specs.Entries.{Entry, docs_of}
use Rattle.ii_base.specs.Terms.{TermState}
use Rattle.ii_base.specs.declared.schema.index_record_option.IndexRecordOption.TheVariants.{WithFreqs}
use Rattle.ii_query_parser.specs.declared.query.Query.{Query}
use Rattle.ii_query_parser.specs.Queries as queries
use Rattle.ii_query_parser.specs.Queries.{QueryTree, QueryTrees, tree_of}
use Rattle.ii_reader.specs.OpenIndex.{OpenIndexState}
use Rattle.ii_scorer.specs.BlockLists.{BlockList}
use Rattle.ii_search.specs.Found.{docs_of_term}

-- the documents of a list, none if a part of it is corrupt
abbrev pub docs_or_none : Result (List Entry) Part → List ℕ
docs_or_none (Ok es) = docs_of es
docs_or_none (Err part) = []

-- the documents of a term
abbrev pub term_docs : OpenIndexState → TermState → List ℕ
term_docs index term = docs_or_none (docs_of_term WithFreqs index term)

-- those of each term of a query that isn't one of a phrase or of a range
abbrev mutual
  pub tree_docs : OpenIndexState → QueryTree → List (List ℕ)
  tree_docs index queries.nothing = []
  tree_docs index (queries.all_below n) = []
  tree_docs index (queries.one_term term) = term_docs index term ∷ []
  tree_docs index (queries.one_phrase first others slop) = []
  tree_docs index (queries.one_phrase_prefix phrase) = []
  tree_docs index (queries.one_range range) = []
  tree_docs index (queries.each_of qs) = trees_docs index qs
  tree_docs index (queries.any_of qs) = trees_docs index qs
  tree_docs index (queries.without first other) = tree_docs index first ++ tree_docs index other

  pub trees_docs : OpenIndexState → QueryTrees → List (List ℕ)
  trees_docs index queries.no_tree = []
  trees_docs index (queries.tree q qs) = tree_docs index q ++ trees_docs index qs

-- the same of a program's query
abbrev pub query_docs : OpenIndexState → Query → List (List ℕ)
query_docs index query = tree_docs index (tree_of query)

-- the documents of lists
abbrev pub lists_docs : List BlockList → List (List ℕ)
lists_docs lists = map (λ (l : BlockList). l.docs) lists

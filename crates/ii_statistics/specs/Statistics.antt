-- The numbers of open segments that the scores of a query need, and the first damage of what they are counted from.
use Rattle.std.specs.Prelude.{◌≡◌, ℕ, ◌==◌, ◌&&◌, List, [], ◌∷◌, ◌++◌, bytes_eq, if◌then◌else◌, length, map, Option, None, Result, Ok, Err}
use Rattle.ii_io.specs.declared.faults.Part.{Part}
use Rattle.ii_base.specs.Entries.{Entry}
use Rattle.ii_base.specs.Terms.{TermState}
use Rattle.ii_bm25.specs.Statistics.{Statistics}
use Rattle.ii_query_parser.specs.declared.query.PhraseTerm.{PhraseTerm}
use Rattle.ii_query_parser.specs.declared.query.Query.{Query}
use Rattle.ii_query_parser.specs.declared.query.Query.TheVariants.{Term}
use Rattle.ii_query_parser.specs.Queries.{QueryTree, QueryTrees, all_below, any_of, each_of, no_tree, nothing, one_phrase, one_phrase_prefix, one_range, one_term, tree, tree_of, without}
use Rattle.ii_ranking.specs.Scores.{damage_of, first_of}
use Rattle.ii_ranking.specs.Segments.{segments_damage}
use Rattle.ii_segment_search.specs.Searcher.{OpenSegmentState, found_from, total_living}
use Rattle.ii_statistics.specs.declared.statistics.QueryStatistics.{QueryStatistics}
use Rattle.ii_statistics.specs.declared.statistics.TermCounts.{TermCounts}

-- The terms of a query, in its order, without those of ranges.
abbrev mutual
  pub tree_terms : QueryTree → List TermState
  tree_terms nothing = []
  tree_terms (all_below n) = []
  tree_terms (one_term term) = term ∷ []
  tree_terms (one_phrase first others slop) = first ∷ map (λ (o : PhraseTerm). o.term) others
  tree_terms (one_phrase_prefix phrase) = []
  tree_terms (one_range range) = []
  tree_terms (each_of qs) = trees_terms qs
  tree_terms (any_of qs) = trees_terms qs
  tree_terms (without first other) = tree_terms first ++ tree_terms other

  pub trees_terms : QueryTrees → List TermState
  trees_terms no_tree = []
  trees_terms (tree q qs) = tree_terms q ++ trees_terms qs

-- the terms of a program's query
abbrev pub query_terms : Query → List TermState
query_terms query = tree_terms (tree_of query)

-- how many documents were found; none if a part is corrupt
abbrev pub num_found : Result (List Entry) Part → ℕ
num_found (Ok es) = length es
num_found (Err part) = 0

-- how many living documents of segments have a term
abbrev pub doc_freq_in : List OpenSegmentState → TermState → ℕ
doc_freq_in segments term = num_found (found_from (Term term) 0 segments)

-- the numbers of living documents of segments, given how many tokens they have in each field
abbrev pub segments_statistics : (ℕ → ℕ) → List OpenSegmentState → Statistics
segments_statistics num_tokens segments = record {
  num_docs = total_living segments;
  num_tokens = num_tokens;
  doc_freq = λ field key. doc_freq_in segments (record { field = field; value = key });
}

-- The numbers for a term are the same.
pub record AreSameFor (a b : Statistics) (t : TermState) : Type 0 where
  pub num_tokens : a.num_tokens t.field ≡ b.num_tokens t.field
  pub doc_freq : a.doc_freq t.field t.value ≡ b.doc_freq t.field t.value

-- the first damaged part of the documents of terms: term by term, and segment by segment
abbrev pub terms_damage : List OpenSegmentState → List TermState → Option Part
terms_damage segments [] = None
terms_damage segments (t ∷ ts) = first_of (damage_of (found_from (Term t) 0 segments)) (terms_damage segments ts)

-- the first damaged part of what a ranking by the exact numbers of segments needs: of the documents of the query's terms, then of what its scores need
abbrev pub ranking_damage : List OpenSegmentState → Query → Option Part
ranking_damage segments query = first_of (terms_damage segments (query_terms query)) (segments_damage query segments)

-- a term, how many documents have it, and how many tokens its field has
pub record CountsState : Type 0 where
  pub term : TermState
  pub doc_freq : ℕ
  pub num_tokens : ℕ

-- the model of what was counted of a term
abbrev pub counts_view : TermCounts → CountsState
counts_view c = record { term = c.term.now; doc_freq = c.doc_freq; num_tokens = c.num_tokens }

-- what is counted of a term
abbrev pub counts_of_term : (ℕ → ℕ) → List OpenSegmentState → TermState → CountsState
counts_of_term num_tokens segments term = record { term = term; doc_freq = doc_freq_in segments term; num_tokens = num_tokens term.field }

-- the number of documents of the first term with a field and a key; none without one
abbrev pub freq_of : List CountsState → ℕ → List ℕ → ℕ
freq_of [] field key = 0
freq_of (c ∷ cs) field key = if (c.term.field == field) && bytes_eq c.term.value key then c.doc_freq else freq_of cs field key

-- the number of tokens of the first term of a field; none without one
abbrev pub tokens_of : List CountsState → ℕ → ℕ
tokens_of [] field = 0
tokens_of (c ∷ cs) field = if c.term.field == field then c.num_tokens else tokens_of cs field

-- the numbers that were counted for a query
abbrev pub query_statistics : QueryStatistics → Statistics
query_statistics s = record { num_docs = s.num_docs; num_tokens = tokens_of (map counts_view s.terms.items); doc_freq = freq_of (map counts_view s.terms.items) }

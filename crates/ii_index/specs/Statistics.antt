-- The numbers of an index that the scores of a query need, and the first damage of what they are counted from.
use Rattle.std.specs.Prelude.{ℕ, ◌+◌, ◌-◌, ◌^◌, List, [], ◌∷◌, filter, length, min, get_or, Option, None, Some, Result, Ok, Err}
use Rattle.std.specs.List.{range_with_len}
use Rattle.ii_io.specs.declared.faults.Part.{Part}
use Rattle.ii_base.specs.Terms.{TermState}
use Rattle.ii_bm25.specs.Statistics.{Statistics}
use Rattle.ii_definitions.specs.Postings.{field_count}
use Rattle.ii_definitions.specs.Tokens.{IndexToken}
use Rattle.ii_query_parser.specs.declared.query.Query.{Query}
use Rattle.ii_ranking.specs.Scores.{first_of}
use Rattle.ii_index.specs.Deletes.{has_term}
use Rattle.ii_index.specs.Searching.{SearcherState}
use Rattle.ii_statistics.specs.Statistics.{query_terms, segments_statistics, terms_damage}

-- how many tokens the living documents of a segment have in a field; none if its counts are damaged
abbrev pub tokens_in : ℕ → Result (List ℕ) Part → ℕ
tokens_in field (Ok totals) = get_or totals field 0
tokens_in field (Err part) = 0

-- how many tokens the living documents of segments have in a field
abbrev pub num_tokens_of : List (Result (List ℕ) Part) → ℕ → ℕ
num_tokens_of [] field = 0
num_tokens_of (t ∷ ts) field = tokens_in field t + num_tokens_of ts field

-- how many tokens the living documents of an open index have in a field
abbrev pub searcher_tokens : SearcherState → ℕ → ℕ
searcher_tokens s field = min (2 ^ 64 - 1) (num_tokens_of s.num_tokens field)

-- the numbers of living documents and of their tokens in the open segments of an index
abbrev pub index_statistics : SearcherState → Statistics
index_statistics s = segments_statistics (searcher_tokens s) s.segments

-- how many of n documents with these tokens have a term
abbrev pub num_docs_with : ℕ → List IndexToken → TermState → ℕ
num_docs_with n ts term = length (filter (has_term term ts) (range_with_len 0 n))

-- the numbers of n documents, and of their tokens
abbrev pub token_statistics : ℕ → List IndexToken → Statistics
token_statistics n ts = record {
  num_docs = n;
  num_tokens = λ field. min (2 ^ 64 - 1) (field_count field ts);
  doc_freq = λ field key. num_docs_with n ts (record { field = field; value = key });
}

-- the damaged part of the counts of a segment
abbrev pub damage_in : Result (List ℕ) Part → Option Part
damage_in (Ok totals) = None
damage_in (Err part) = Some part

-- the first damaged part of the counts of segments
abbrev pub counts_damage : List (Result (List ℕ) Part) → Option Part
counts_damage [] = None
counts_damage (t ∷ ts) = first_of (damage_in t) (counts_damage ts)

-- the first damaged part of what the numbers for a query are counted from
abbrev pub statistics_damage : SearcherState → Query → Option Part
statistics_damage s query = first_of (counts_damage s.num_tokens) (terms_damage s.segments (query_terms query))

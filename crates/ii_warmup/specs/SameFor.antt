-- Indexes that have the same postings for a query.
use Rattle.std.specs.Prelude.{◌≡◌, ℕ, List, Option, Result, map, slice_get}
use Rattle.std.specs.List.{AllByRecursion}
use Rattle.ii_io.specs.declared.faults.Part.{Part}
use Rattle.ii_base.specs.declared.schema.index_record_option.IndexRecordOption.{IndexRecordOption}
use Rattle.ii_base.specs.Entries.{Entry}
use Rattle.ii_query_parser.specs.declared.query.Query.{Query}
use Rattle.ii_query_parser.specs.declared.term_range.TermRange.{TermRange}
use Rattle.ii_reader.specs.InvertedIndexReader.{InvertedIndexReaderState}
use Rattle.ii_reader.specs.OpenIndex.{OpenIndexState}
use Rattle.ii_search.specs.Found.{docs_of_term, docs_under, found_in, keys_in}
use Rattle.ii_warmup.specs.QueryTerms.{QueryRangeState, QueryTermState, query_ranges, requested_terms}

-- the keys of a field in a range, each with its documents or its first corrupt part
abbrev pub range_docs : IndexRecordOption → TermRange → Option InvertedIndexReaderState → List (List ℕ × Result (List Entry) Part)
range_docs requested range reader = map (λ (key : List ℕ). (key, docs_under requested key reader)) (keys_in range reader)

-- Two indexes have the same documents of a term.
abbrev pub SameTerm : OpenIndexState → OpenIndexState → QueryTermState → Type 0
SameTerm index other t = docs_of_term t.option index t.term ≡ docs_of_term t.option other t.term

-- Two indexes have the same keys in a range, each with the same documents.
abbrev pub SameRange : OpenIndexState → OpenIndexState → QueryRangeState → Type 0
SameRange index other r = range_docs r.option r.range (slice_get index.readers r.range.prefix.field) ≡ range_docs r.option r.range (slice_get other.readers r.range.prefix.field)

-- Two indexes have the same documents of each term and each range of a query.
pub record SameFor (query : Query) (index other : OpenIndexState) : Type 0 where
  pub terms : AllByRecursion (SameTerm index other) (requested_terms query)
  pub ranges : AllByRecursion (SameRange index other) (query_ranges query)

-- Indexes that are the same for a query find the same documents, or the same first corrupt part.
abbrev pub FoundAsThere : Type 0
FoundAsThere = (query : Query) (index other : OpenIndexState) → SameFor query index other → found_in index query ≡ found_in other query

-- Readers and indexes that have of others what is requested.
use Rattle.std.specs.Prelude.{◌≡◌, ℕ, ⊤, true, List, Option, None, Some, filter, is_some, slice_get}
use Rattle.ii_base.specs.declared.schema.index_record_option.IndexRecordOption.{IndexRecordOption}
use Rattle.ii_query_parser.specs.declared.query.Query.{Query}
use Rattle.ii_reader.specs.InvertedIndexReader.{InvertedIndexReaderState}
use Rattle.ii_reader.specs.OpenIndex.{OpenIndexState}
use Rattle.ii_search.specs.Found.{docs_under, found_in}
use Rattle.ii_termdict.specs.Dictionary.{entry_keys}
use Rattle.ii_warmup.specs.QueryTerms.{query_ranges, requested_of, requested_terms, serves}
use Rattle.ii_warmup.specs.SameFor.{SameFor}

-- A reader has exactly the keys of another one of which something is requested, and gives what is requested of each as the other one does, or the same first corrupt part.
pub record IsPartOf (requested : List ℕ → Option IndexRecordOption) (part whole : InvertedIndexReaderState) : Type 0 where
  pub keys : entry_keys part.terms ≡ filter (λ (key : List ℕ). is_some (requested key)) (entry_keys whole.terms)
  pub docs : (key : List ℕ) (wanted option : IndexRecordOption) → requested key ≡ Some wanted → serves option wanted ≡ true → docs_under option key (Some part) ≡ docs_under option key (Some whole)
  pub option : part.option ≡ whole.option
  pub num_tokens : part.num_tokens ≡ whole.num_tokens

-- A reader is part of another one, or neither is there.
abbrev pub IsPartOfField : (List ℕ → Option IndexRecordOption) → Option InvertedIndexReaderState → Option InvertedIndexReaderState → Type 0
IsPartOfField requested None None = ⊤
IsPartOfField requested (Some part) (Some whole) = IsPartOf requested part whole
IsPartOfField requested part whole = ⊥

-- An index has of each field of another one what a query reads of it.
abbrev pub IsPartFor : Query → OpenIndexState → OpenIndexState → Type 0
IsPartFor query part whole = (field : ℕ) → IsPartOfField (requested_of (requested_terms query) (query_ranges query) field) (slice_get part.readers field) (slice_get whole.readers field)

-- An index that has what a query reads of another one is the same for the query.
abbrev pub PartsAreSame : Type 0
PartsAreSame = (query : Query) (part whole : OpenIndexState) → IsPartFor query part whole → SameFor query part whole

-- So it finds the same documents, or the same first corrupt part.
abbrev pub PartsFindTheSame : Type 0
PartsFindTheSame = (query : Query) (part whole : OpenIndexState) → IsPartFor query part whole → found_in part query ≡ found_in whole query

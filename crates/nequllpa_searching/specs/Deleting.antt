-- Which documents of open segments have a term, or one of several.
use Rattle.std.specs.Prelude.{ℕ, Bool, List, [], ◌∷◌, ◌++◌, filter, length, map, nat_eq, Result, Ok}
use Rattle.std.specs.List.{list_any, range_with_len}
use Rattle.ii_io.specs.Parts.{◌>>=◌}
use Rattle.ii_io.specs.declared.faults.Part.{Part}
use Rattle.ii_base.specs.Entries.{docs_of}
use Rattle.ii_base.specs.Terms.{TermState}
use Rattle.ii_base.specs.declared.schema.index_record_option.IndexRecordOption.TheVariants.{Basic}
use Rattle.ii_definitions.specs.Tokens.{IndexToken}
use Rattle.ii_query_parser.specs.Queries.{is_token_of}
use Rattle.ii_reader.specs.OpenIndex.{OpenIndexState, all_or_first}
use Rattle.ii_search.specs.Found.{docs_of_term}
use Rattle.ii_segments.specs.Segments.{is_living}
use Rattle.nequllpa_opening.specs.declared.opened.Opened.{Opened}

-- the living documents that have a term, or the first corrupt part of its list
abbrev pub docs_with_term : OpenIndexState → List Bool → TermState → Result (List ℕ) Part
docs_with_term index alive term = do
  es ← docs_of_term Basic index term
  Ok (filter (is_living alive) (docs_of es))

-- those of one term after the other, or the first corrupt part
abbrev pub docs_of_terms : OpenIndexState → List Bool → List TermState → Result (List ℕ) Part
docs_of_terms index alive [] = Ok []
docs_of_terms index alive (term ∷ terms) = do
  docs ← docs_with_term index alive term
  others ← docs_of_terms index alive terms
  Ok (docs ++ others)

-- whether a document is one of some
abbrev pub is_among : List ℕ → ℕ → Bool
is_among docs doc = list_any (λ (d : ℕ). nat_eq d doc) docs

-- the living documents that have one of some terms, in ascending order, or the first corrupt part
abbrev pub docs_with_terms : OpenIndexState → List Bool → List TermState → Result (List ℕ) Part
docs_with_terms index alive terms = do
  docs ← docs_of_terms index alive terms
  Ok (filter (is_among docs) (range_with_len 0 (length alive)))

-- the living documents of each segment that have a term, or the first corrupt part
abbrev pub docs_in_each : List Opened → TermState → Result (List (List ℕ)) Part
docs_in_each segments term = all_or_first (map (λ (s : Opened). docs_with_term s.index s.alive term) segments)

-- the living documents of each segment that have one of some terms, in ascending order, or the first corrupt part
abbrev pub key_docs_in_each : List Opened → List TermState → Result (List (List ℕ)) Part
key_docs_in_each segments terms = all_or_first (map (λ (s : Opened). docs_with_terms s.index s.alive terms) segments)

-- whether a document has a token of one of some terms
abbrev pub has_one_of : List TermState → List IndexToken → ℕ → Bool
has_one_of terms ts doc = list_any (λ (term : TermState). list_any (is_token_of term doc) ts) terms

-- Which terms of an index are corrupt.
use Rattle.std.specs.Prelude.{ℕ, List, Option, None, Some, slice_get}
use Rattle.std.specs.List.{enumerate_from, filter_map}
use Rattle.std.specs.Option.{option_map}
use Rattle.std.specs.Result.{result_err}
use Rattle.ii_io.specs.declared.faults.Part.{Part}
use Rattle.ii_termdict.specs.Dictionary.{TermEntry}
use Rattle.ii_reader.specs.declared.damage.DamagedTerm.{DamagedTerm}
use Rattle.ii_reader.specs.InvertedIndexReader.{InvertedIndexReaderState, term_of_file, trusted_reader}
use Rattle.ii_reader.specs.OpenIndex.{OpenIndexState, trusted_index}

-- a corrupt term
abbrev pub damaged_term : ℕ → Part → DamagedTerm
damaged_term ord part = record { ord = ord; part = part }

-- the term at an ordinal with its first corrupt part, if it has one
abbrev pub damage_of : InvertedIndexReaderState → ℕ × TermEntry → Option DamagedTerm
damage_of reader e = option_map (damaged_term e.0) (result_err (term_of_file reader reader.option e.1.1))

-- the corrupt terms of a field, in the order of their keys
abbrev pub damaged_terms : InvertedIndexReaderState → List DamagedTerm
damaged_terms reader = filter_map (damage_of reader) (enumerate_from 0 reader.terms)

-- the first corrupt term of a field
abbrev pub first_damaged_term : InvertedIndexReaderState → Option DamagedTerm
first_damaged_term reader = slice_get (damaged_terms reader) 0

-- a field with its first corrupt term, if it has one
abbrev pub damage_of_field : ℕ × InvertedIndexReaderState → Option (ℕ × DamagedTerm)
damage_of_field f = option_map (λ term. (f.0, term)) (first_damaged_term f.1)

-- the fields with corrupt terms, in order, each with its first one
abbrev pub damaged_fields : List InvertedIndexReaderState → List (ℕ × DamagedTerm)
damaged_fields readers = filter_map damage_of_field (enumerate_from 0 readers)

-- the first field with a corrupt term
abbrev pub first_damaged_field : List InvertedIndexReaderState → Option (ℕ × DamagedTerm)
first_damaged_field readers = slice_get (damaged_fields readers) 0

-- a reader after a check: it is trusted if no damage was found
abbrev pub reader_after : Option DamagedTerm → InvertedIndexReaderState → InvertedIndexReaderState
reader_after None reader = trusted_reader reader
reader_after (Some term) reader = reader

-- an index after a check: it is trusted if no damage was found
abbrev pub index_after : Option (ℕ × DamagedTerm) → OpenIndexState → OpenIndexState
index_after None index = trusted_index index
index_after (Some damage) index = index

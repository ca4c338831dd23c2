-- What is written for tokens, and which limits it exceeds.
use Rattle.std.specs.Prelude.{ℕ, List, filter, length, map, nat_lt, None}
use Rattle.std.specs.List.{range_with_len}
use Rattle.ii_io.specs.Composite.{Body}
use Rattle.ii_base.specs.Schema.{SchemaEntry}
use Rattle.ii_base.specs.declared.schema.index_record_option.IndexRecordOption.{IndexRecordOption}
use Rattle.ii_definitions.specs.Fields.{option_of}
use Rattle.ii_definitions.specs.Postings.{field_count}
use Rattle.ii_definitions.specs.Tokens.{IndexToken}
use Rattle.ii_recorder.specs.Terms.{FieldBodies, WrittenTerm, field_bodies}
use Rattle.ii_recorder.specs.TokenTerms.{field_keys, token_term}
use Rattle.ii_postings_writer.specs.TermLimits.{AreWithin, FirstOf, IsWithin, PassEnds}

-- the terms of a field; without bounds, which change no length
abbrev pub token_terms : List SchemaEntry → List IndexToken → ℕ → List WrittenTerm
token_terms entries ts field = map (token_term None (option_of entries field) field ts) (field_keys field ts)

-- the fields of a schema
abbrev pub fields_of : List SchemaEntry → List ℕ
fields_of entries = range_with_len 0 (length entries)

-- the fields of a schema that have terms
abbrev pub fields_with_terms : List SchemaEntry → List IndexToken → List ℕ
fields_with_terms entries ts = filter (λ (field : ℕ). nat_lt 0 (length (field_keys field ts))) (fields_of entries)

-- the bodies of a field
abbrev pub token_bodies : List SchemaEntry → List IndexToken → ℕ → FieldBodies
token_bodies entries ts field = field_bodies (option_of entries field) (field_count field ts) (token_terms entries ts field)

-- a file's bodies, of each field that has terms
abbrev pub file_bodies : (FieldBodies → List ℕ) → List SchemaEntry → List IndexToken → List Body
file_bodies part entries ts = map (λ (field : ℕ). record { field = field; bytes = part (token_bodies entries ts field) }) (fields_with_terms entries ts)

-- P holds for the first term that exceeds a limit, in the order of fields and keys.
abbrev pub FirstTerm : (IndexRecordOption → WrittenTerm → Type 0) → List SchemaEntry → List IndexToken → Type 0
FirstTerm P entries ts =
    FirstOf (λ (field : ℕ). AreWithin (option_of entries field) (token_terms entries ts field))
    (λ (field : ℕ). FirstOf (IsWithin (option_of entries field)) (P (option_of entries field)) (token_terms entries ts field)) (fields_of entries)

-- The terms of a field are too long in total, and the terms of the fields before it exceed no limit.
abbrev pub FirstEnds : List SchemaEntry → List IndexToken → Type 0
FirstEnds entries ts =
    FirstOf (λ (field : ℕ). AreWithin (option_of entries field) (token_terms entries ts field)) (λ (field : ℕ). PassEnds (option_of entries field) (token_terms entries ts field)) (fields_of entries)

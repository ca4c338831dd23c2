-- Tokens that the bytes of an index hold, and why they don't open.
use Rattle.std.specs.Prelude.{◌≡◌, ℕ, List, Result, Ok}
use Rattle.std.specs.Str.{IsUtf8}
use Rattle.ii_io.specs.declared.faults.Part.{Part}
use Rattle.ii_base.specs.Schema.{SchemaEntry}
use Rattle.ii_definitions.specs.Fields.{option_of}
use Rattle.ii_definitions.specs.Files.{HoldTokens}
use Rattle.ii_definitions.specs.Norms.{HoldNorms}
use Rattle.ii_definitions.specs.Tokens.{IndexToken}
use Rattle.ii_reader.specs.InvertedIndexReader.{IsRefusal}
use Rattle.ii_reader.specs.OpenIndex.{OpenIndexState, index_of_files}
use Rattle.ii_schema_text.specs.SchemaText.{TellsOfText, text_schema, tokenized_schema, told_of_text}
use Rattle.ii_store.specs.Index.{Index}
use Rattle.nequllpa_opening.specs.declared.faults.OpenFault.{OpenFault}
use Rattle.nequllpa_opening.specs.declared.faults.OpenFault.TheVariants.{Documents, Files, Schema, SchemaBytes}

-- The files of an index hold tokens of the fields of a schema, and their norms.
pub record HoldsTokens (entries : List SchemaEntry) (i : Index) (ts : List IndexToken) : Type 0 where
  pub tokens : HoldTokens (option_of entries) i.terms i.postings i.positions ts
  pub norms : HoldNorms entries i.num_docs i.fieldnorms ts

-- The readers over the files of an index with a schema, or the first corrupt part.
abbrev pub readers_of : Index → List SchemaEntry → Result OpenIndexState Part
readers_of i entries = index_of_files i.terms i.postings i.positions i.fieldnorms entries

-- Why bytes are no schema: they aren't UTF-8, or their text is no schema.
abbrev pub IsSchemaRefusal : List ℕ → OpenFault → Type 0
IsSchemaRefusal bytes SchemaBytes = IsUtf8 bytes → ⊥
IsSchemaRefusal bytes (Schema fault) = TellsOfText (told_of_text fault) (text_schema bytes)
IsSchemaRefusal bytes (Files fault) = ⊥
IsSchemaRefusal bytes (Documents damage) = ⊥

-- Why bytes are no schema with tokenizers: they aren't UTF-8, or their text is no schema.
abbrev pub IsTextSchemaRefusal : List ℕ → OpenFault → Type 0
IsTextSchemaRefusal bytes SchemaBytes = IsUtf8 bytes → ⊥
IsTextSchemaRefusal bytes (Schema fault) = TellsOfText (told_of_text fault) (tokenized_schema bytes)
IsTextSchemaRefusal bytes (Files fault) = ⊥
IsTextSchemaRefusal bytes (Documents damage) = ⊥

-- Why an index doesn't open: its schema is invalid, or its files don't open with it.
abbrev pub IsOpenRefusal : Index → OpenFault → Type 0
IsOpenRefusal i SchemaBytes = IsSchemaRefusal i.schema SchemaBytes
IsOpenRefusal i (Schema fault) = IsSchemaRefusal i.schema (Schema fault)
IsOpenRefusal i (Files fault) = (entries : List SchemaEntry) × (text_schema i.schema ≡ Ok entries) × IsRefusal (readers_of i entries) fault
IsOpenRefusal i (Documents damage) = ⊥

-- The bodies of an index's fields, and the tokens that they hold.
use Rattle.std.specs.Prelude.{◌≡◌, ℕ, ◌<◌, List, length, map, Some}
use Rattle.std.specs.List.{AllByRecursion}
use Rattle.ii_io.specs.Composite.{Body, body_of}
use Rattle.ii_base.specs.Schema.{SchemaEntry}
use Rattle.ii_base.specs.declared.schema.index_record_option.IndexRecordOption.{IndexRecordOption}
use Rattle.ii_definitions.specs.Fields.{option_of}
use Rattle.ii_definitions.specs.Files.{HasField, HoldsField}
use Rattle.ii_definitions.specs.Postings.{field_count, kind_of, tokens_at}
use Rattle.ii_definitions.specs.Tokens.{IndexToken}
use Rattle.ii_definitions.specs.TrueBounds.{HaveTrueBodies}
use Rattle.ii_recorder.specs.IndexSerializer.{IndexSerializerState}
use Rattle.ii_postings_writer.specs.FieldParts.{FieldPart, HasFields, positions_of_part, postings_body, terms_body, tokens_in}
use Rattle.ii_postings_writer.specs.IndexingContext.{TermIndex}
use Rattle.ii_postings_writer.specs.PostingsWriter.{PostingsWriterState}
use Rattle.ii_postings_writer.specs.Records.{Records}

-- The bodies of each field hold its tokens under its option.
pub record BodiesHold (option : ℕ → IndexRecordOption) (terms postings positions : List Body) (ts : List IndexToken) : Type 0 where
  pub present : (field : ℕ) → HasField field terms ts × HasField field postings ts × HasField field positions ts
  pub fields : (field : ℕ) (t p q : List ℕ) → body_of field terms ≡ Some t → body_of field postings ≡ Some p → body_of field positions ≡ Some q → HoldsField (option field) field t p q ts

-- A context and its writers have these tokens: each key's postings, and each field's number of tokens.
pub record HaveTokens (entries : List SchemaEntry) (terms : TermIndex) (writers : List PostingsWriterState) (ts : List IndexToken) : Type 0 where
  pub records : Records (λ field key. kind_of (option_of entries field) (tokens_at field key ts)) terms ts
  pub counted : (field : ℕ) → field < length entries → tokens_in writers field ≡ field_count field ts
  pub known : AllByRecursion (λ (t : IndexToken). t.field < length entries) ts

-- Tokens were written: the bodies in the files hold them, with bounds that are true by these norms.
pub record WroteTokens (old new : IndexSerializerState) (norms : List Body) (ts : List IndexToken) : Type 0 where
  pub fs : List FieldPart
  pub known : AllByRecursion (λ (p : FieldPart). p.field < length old.entries) fs
  pub fields : HasFields old.entries old.bodies new.bodies fs
  pub held : BodiesHold (option_of old.entries) (map (terms_body old.entries) fs) (map (postings_body old.entries) fs) (map (positions_of_part old.entries) fs) ts
  pub bounds : HaveTrueBodies (option_of old.entries) (map (terms_body old.entries) fs) (map (postings_body old.entries) fs) norms

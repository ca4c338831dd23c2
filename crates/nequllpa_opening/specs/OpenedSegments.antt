-- Segments that open with the schema of their index.
use Rattle.std.specs.Prelude.{◌≡◌, ℕ, IfSome, List, Ok, Some}
use Rattle.std.specs.Option.{option_map}
use Rattle.ii_io.specs.Composite.{composite}
use Rattle.ii_base.specs.Schema.{SchemaEntry}
use Rattle.ii_definitions.specs.Tokens.{IndexToken}
use Rattle.ii_doc_store.specs.StoreReader.{index_of}
use Rattle.ii_reader.specs.OpenIndex.{IndexHolds}
use Rattle.ii_schema_text.specs.SchemaText.{text_schema}
use Rattle.ii_segment_store.specs.Contents.{as_index, segment_contents}
use Rattle.ii_segment_store.specs.declared.stored_segments.StoredSegment.{StoredSegment}
use Rattle.nequllpa_opening.specs.Stored.{HoldsTokens, readers_of}
use Rattle.nequllpa_opening.specs.declared.opened.Opened.{Opened}

-- A segment opens with the schema of an index, given as bytes: its readers are those over its files, and hold the tokens that these hold. Its flags are those of the segment, and its stored documents those of its file.
pub record OpensAs (bytes : List ℕ) (s : StoredSegment) (o : Opened) : Type 0 where
  pub schema : text_schema bytes ≡ Ok o.schema
  pub readers : readers_of (as_index bytes (segment_contents s)) o.schema ≡ Ok o.index
  pub docs : o.num_docs ≡ s.files.num_docs
  pub alive : o.alive ≡ s.alive
  pub counts : option_map (λ r. Some r) o.counts ≡ option_map (λ v. composite v.items) s.files.counts
  pub store : option_map (λ r. r.bytes) o.store ≡ option_map (λ v. v.items) s.files.store
  pub stored : IfSome o.store (λ r. index_of r.bytes ≡ Ok r.checkpoints)
  pub holds : (entries : List SchemaEntry) (ts : List IndexToken) → text_schema bytes ≡ Ok entries → HoldsTokens entries (as_index bytes (segment_contents s)) ts → IndexHolds entries s.files.num_docs o.index ts

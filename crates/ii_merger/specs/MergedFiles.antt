-- The files of a merged segment.
use Rattle.std.specs.Prelude.{◌≡◌, ℕ, ◌+◌, ◌≤◌, ◌⊎◌, List, [], length, map}
use Rattle.std.specs.List.{range_with_len}
use Rattle.ii_io.specs.Composite.{written_composite}
use Rattle.ii_io.specs.CompositeWrite.{HasBodies, WroteComposite}
use Rattle.ii_io.specs.CountingWriter.{CountingWriterState, IsFull, Wrote}
use Rattle.ii_io.specs.declared.faults.Fault.{Fault}
use Rattle.ii_io.specs.declared.faults.Fault.TheVariants.{Limit, OutOfMemory, Write}
use Rattle.ii_io.specs.declared.faults.LimitName.TheVariants as limit
use Rattle.ii_base.specs.Schema.{SchemaEntry}
use Rattle.ii_definitions.specs.Postings.{field_count}
use Rattle.ii_definitions.specs.Tokens.{IndexToken}
use Rattle.ii_recorder.specs.IndexBodies.{IndexBodiesState}
use Rattle.ii_merger.specs.MergedIndex.{AreMergedParts, IsFieldsFault, MergeSourceState, MergedPart, Merging, positions_body_of, postings_body_of, terms_body_of}
use Rattle.ii_merger.specs.MergedNorms.{HaveNorms, IsNormsFault, merged_norm_bytes, merged_norm_file}
use Rattle.ii_indexing.specs.IndexFiles.{begun_files}
use Rattle.ii_indexing.specs.declared.index_writers.IndexWriters.{IndexWriters}

-- the number of tokens in each of n fields
abbrev pub num_tokens_by_field : ℕ → List IndexToken → List ℕ
num_tokens_by_field n ts = map (λ (field : ℕ). field_count field ts) (range_with_len 0 n)

-- Nothing was written to the three files yet.
pub record AreBegun (b : IndexBodiesState) : Type 0 where
  pub terms : HasBodies b.terms.writer b.terms []
  pub postings : HasBodies b.postings.writer b.postings []
  pub positions : HasBodies b.positions.writer b.positions []

-- The three files of all fields were written, whatever the segments hold.
pub record WroteParts (m : Merging) (old_terms old_postings old_positions new_terms new_postings new_positions : CountingWriterState) : Type 0 where
  pub parts : List MergedPart
  pub are : AreMergedParts m (length m.entries) parts
  pub terms : WroteComposite old_terms new_terms (map terms_body_of parts)
  pub postings : WroteComposite old_postings new_postings (map postings_body_of parts)
  pub positions : WroteComposite old_positions new_positions (map positions_body_of parts)

-- A file has no room for all fields.
pub record HasNoRoom (m : Merging) (terms postings positions : CountingWriterState) : Type 0 where
  pub parts : List MergedPart
  pub are : AreMergedParts m (length m.entries) parts
  pub full : IsFull terms (length (written_composite (map terms_body_of parts))) ⊎ IsFull postings (length (written_composite (map postings_body_of parts))) ⊎ IsFull positions (length (written_composite (map positions_body_of parts)))

-- Why the three files can't be written: an allocation or a writer failed, a field can't be written, or there is no room.
abbrev pub IsFilesFault : Merging → IndexBodiesState → Fault → Type 0
IsFilesFault m begun fault =
    (fault ≡ OutOfMemory) ⊎ (fault ≡ Write) ⊎ IsFieldsFault m begun fault
    ⊎ ((fault ≡ Limit limit.Offset) × HasNoRoom m begun.terms.writer begun.postings.writer begun.positions.writer)

-- what is merged, given the schema, the number of tokens of each field, and the segments
abbrev pub merging_of : List SchemaEntry → List ℕ → List MergeSourceState → Merging
merging_of entries num_tokens ss = record { entries = entries; num_tokens = num_tokens; norms = merged_norm_file entries ss; segments = ss }

-- The four files were written, whatever the segments hold.
pub record WroteMerged {W : Type 0} (m : Merging) (old new : IndexWriters W) : Type 0 where
  pub files : WroteParts m old.terms old.postings old.positions new.terms new.postings new.positions
  pub norms : HaveNorms m.entries m.segments
  pub wrote_norms : Wrote old.fieldnorms new.fieldnorms (merged_norm_bytes m.entries m.segments)

-- Why segments can't be merged: their norms can't be, the file of norms has no room, or the other files can't be written.
abbrev pub IsMergeFault : {W : Type 0} → Merging → IndexWriters W → Fault → Type 0
IsMergeFault m writers fault =
    IsNormsFault m.entries m.segments fault ⊎ IsFilesFault m (begun_files writers) fault
    ⊎ ((fault ≡ Limit limit.Offset) × IsFull writers.fieldnorms (length (merged_norm_bytes m.entries m.segments)))

-- The norms of an index, merged from segments.
use Rattle.std.specs.Prelude.{◌≡◌, ℕ, ◌≤◌, ◌^◌, ◌⊎◌, Bool, true, false, IsSomeAnd, List, [], length, map, slice_index, unwrap_or}
use Rattle.std.specs.List.{AllByRecursion, flat_map}
use Rattle.ii_io.specs.Composite.{Body, body_of, written_composite}
use Rattle.ii_io.specs.CompositeWrite.{AddsBody, CompositeWriteState}
use Rattle.ii_io.specs.declared.faults.Fault.{Fault}
use Rattle.ii_io.specs.declared.faults.Fault.TheVariants.{Damaged, Limit, OutOfMemory}
use Rattle.ii_io.specs.declared.faults.LimitName.TheVariants as limit
use Rattle.ii_io.specs.declared.faults.Part.TheVariants as parts
use Rattle.ii_base.specs.Schema.{SchemaEntry}
use Rattle.ii_fieldnorm.specs.Buffers.{norm_fields}
use Rattle.ii_segments.specs.Segments.{living_docs}
use Rattle.ii_merger.specs.MergedIndex.{MergeSourceState}

-- the norms of the living documents of a segment in a field
abbrev pub living_ids : ℕ → MergeSourceState → List ℕ
living_ids field s = map (slice_index (unwrap_or (body_of field s.index.fieldnorms) [])) (living_docs s.alive)

-- the norms of the living documents of segments in a field
abbrev pub merged_ids : ℕ → List MergeSourceState → List ℕ
merged_ids field ss = flat_map (living_ids field) ss

-- the bodies of the merged file of norms
abbrev pub merged_norm_file : List SchemaEntry → List MergeSourceState → List Body
merged_norm_file entries ss = map (λ (field : ℕ). record { field = field; bytes = merged_ids field ss }) (norm_fields entries)

-- A segment has one norm for each document in a field.
abbrev pub HasAllNorms : ℕ → MergeSourceState → Type 0
HasAllNorms field s = IsSomeAnd (body_of field s.index.fieldnorms) (λ ids. length ids ≡ length s.alive)

-- Each segment has norms in the fields that have norms.
abbrev pub HaveNorms : List SchemaEntry → List MergeSourceState → Type 0
HaveNorms entries ss = AllByRecursion (λ (field : ℕ). AllByRecursion (HasAllNorms field) ss) (norm_fields entries)

-- The norms of a field were written, if it has norms.
abbrev pub AddsNorms : Bool → ℕ → List ℕ → CompositeWriteState → CompositeWriteState → Type 0
AddsNorms false field ids old new = new ≡ old
AddsNorms true field ids old new = AddsBody old new field ids

-- the bytes of the merged file of norms
abbrev pub merged_norm_bytes : List SchemaEntry → List MergeSourceState → List ℕ
merged_norm_bytes entries ss = written_composite (merged_norm_file entries ss)

-- Why norms can't be merged: an allocation failed, a segment lacks norms, or the file would be too long.
abbrev pub IsNormsFault : List SchemaEntry → List MergeSourceState → Fault → Type 0
IsNormsFault entries ss fault =
    (fault ≡ OutOfMemory) ⊎ ((fault ≡ Limit limit.Offset) × (2 ^ 64 ≤ length (merged_norm_bytes entries ss)))
    ⊎ ((fault ≡ Damaged parts.FieldNorms) × ¬ HaveNorms entries ss)

-- Segments whose stored documents stay in their file.
use Rattle.std.specs.Prelude.{ℕ, List, Option, IfSome}
use Rattle.std.specs.Option.{option_map}
use Rattle.ii_block_file.specs.ListedFile.{HasKnownBytes, bytes_or_none}
use Rattle.ii_segment_store.specs.Contents.{SegmentContents, contents_with}
use Rattle.ii_segment_store.specs.declared.segment_source.SegmentSource.{SegmentSource}

-- what a segment holds, whose stored documents are in a file with these bytes
abbrev pub source_contents : {F : Type 0} → (F → Option (List ℕ)) → SegmentSource F → SegmentContents
source_contents bytes s = record (contents_with s.files s.alive) { store = option_map (λ b. bytes_or_none (bytes b.source)) s.store }

-- The file of a segment's stored documents, if there is one, is open with known bytes.
abbrev pub HasKnownStore : {F : Type 0} → (F → Option (List ℕ)) → SegmentSource F → Type 0
HasKnownStore bytes s = IfSome s.store (HasKnownBytes bytes)

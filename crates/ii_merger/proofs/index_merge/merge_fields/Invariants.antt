use Rattle.std.proofs.Common.{◌≡◌, List, Ok, length, map}
use Rattle.ii_segments.specs.Segments.{Segment, index_tokens}
use Rattle.ii_merger.specs.MergedFiles.{num_tokens_by_field}
use Rattle.ii_merger.specs.MergedIndex.{EndsFields, FieldsBelow, HasMergedFields, MergeSourcesHold, WroteFieldsBelow, opened_segment}
use Rattle.ii_merger.proofs.index_merge.merge_fields.Given as goal

abbrev pub invariant-loop-place : goal.invariant-loop-place
invariant-loop-place g l = record {
  below : FieldsBelow l.place l.serializer.bodies;
  holds : (ss : List Segment) → MergeSourcesHold l.schema (map opened_segment l.sources) ss → l.num_tokens ≡ num_tokens_by_field (length l.schema) (index_tokens ss)
      → HasMergedFields l.schema l.fn.serializer.bodies l.serializer.bodies l.place l.norms (index_tokens ss);
  wrote : WroteFieldsBelow (record { entries = l.schema; num_tokens = l.num_tokens; norms = l.norms; segments = map opened_segment l.sources }) l.fn.serializer.bodies l.serializer.bodies l.place;
  ends : EndsFields l.fn.serializer l.serializer (Ok tt);
}

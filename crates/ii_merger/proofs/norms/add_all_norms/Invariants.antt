use Rattle.std.proofs.Common.{◌≡◌, ℕ, [], false, map}
use Rattle.std.specs.List.{AllByRecursion}
use Rattle.ii_io.specs.CompositeWrite.{HasBodies}
use Rattle.ii_io.specs.CountingWriter.{CountingWriterState}
use Rattle.ii_merger.specs.MergedIndex.{StartsBelow, opened_segment}
use Rattle.ii_merger.specs.MergedNorms.{HasAllNorms, HaveNorms}
use Rattle.ii_merger.proofs.NormLemmas.{IsAddingNorms, norm_fields_from}
use Rattle.ii_merger.proofs.norms.add_all_norms.Given as goal

abbrev pub invariant-loop-place : goal.invariant-loop-place
invariant-loop-place l = record {
  unclosed : l.serializer.closed ≡ false;
  below : StartsBelow l.place l.serializer;
  adds : (initial : CountingWriterState) → HasBodies initial l.fn.serializer [] → IsAddingNorms l.schema (map opened_segment l.sources) initial l.place l.serializer;
  sound : AllByRecursion (λ (field : ℕ). AllByRecursion (HasAllNorms field) (map opened_segment l.sources)) (norm_fields_from l.place l.schema) → HaveNorms l.schema (map opened_segment l.sources);
  whole : HaveNorms l.schema (map opened_segment l.sources) → AllByRecursion (λ (field : ℕ). AllByRecursion (HasAllNorms field) (map opened_segment l.sources)) (norm_fields_from l.place l.schema);
}

use Rattle.std.proofs.Common.{◌≡◌, [], false, map}
use Rattle.ii_io.specs.CompositeWrite.{HasBodies}
use Rattle.ii_io.specs.CountingWriter.{CountingWriterState}
use Rattle.ii_warmup.specs.CopiedNorms.{HasCopiedNorms, StartsBelow}
use Rattle.ii_warmup.specs.QueryTerms.{names_field, range_view, term_view}
use Rattle.ii_warmup.proofs.norms.copy_fields.Given as goal

abbrev pub invariant-loop-place : goal.invariant-loop-place
invariant-loop-place g l = record {
  unclosed : l.serializer.closed ≡ false;
  below : StartsBelow l.place l.serializer;
  copies : (initial : CountingWriterState) → HasBodies initial l.fn.serializer [] → HasCopiedNorms (names_field (map term_view l.terms) (map range_view l.ranges)) (g.H.FileHandle.bytes l.slices.file) initial l.place l.serializer;
}

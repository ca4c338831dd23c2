use Rattle.ii_index.proofs.OpenLemmas.{AreCounting, AreOpening}
use Rattle.ii_index.proofs.opening.open_segments.Given as goal

abbrev pub invariant-loop-segment : goal.invariant-loop-segment
invariant-loop-segment l = record {
  opening : AreOpening l.schema l.fn.segments.items l.yielded l.segment-iterator.rest.items l.opened.items;
  counting : AreCounting l.schema l.yielded l.all_totals.items;
}

use Rattle.std.proofs.Common.{◌≡◌, map}
use Rattle.std.specs.List.{AllByRecursion}
use Rattle.ii_segment_store.specs.Sources.{HasKnownStore, source_contents}
use Rattle.nequllpa_merging.specs.StoredDocuments.{KnowsStore, stored_file, stored_view}
use Rattle.nequllpa_merging.proofs.LoopLemmas.{IsOpening}
use Rattle.nequllpa_merging.proofs.opening.open_segments.Given as goal

abbrev pub invariant-loop-segment : goal.invariant-loop-segment
invariant-loop-segment g l = record {
  opening : IsOpening g.F.ReadAt.bytes l.schema l.fn.segments.items l.yielded l.segment-iterator.rest.items l.opened.items;
  stored : map (stored_view g.F.ReadAt.bytes) l.opened.items ≡ map stored_file (map (source_contents g.F.ReadAt.bytes) l.yielded);
  known : AllByRecursion (HasKnownStore g.F.ReadAt.bytes) l.fn.segments.items → AllByRecursion (KnowsStore g.F.ReadAt.bytes) l.opened.items;
}

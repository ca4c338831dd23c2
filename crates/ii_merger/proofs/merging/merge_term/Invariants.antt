use Rattle.std.proofs.Common.{◌≡◌, drop, map}
use Rattle.ii_merger.specs.MergeSources.{source_of}
use Rattle.ii_merger.proofs.TermMergeLemmas.{IsMergingTerm}
use Rattle.ii_merger.proofs.merging.merge_term.Given as goal

abbrev pub invariant-loop-place : goal.invariant-loop-place
invariant-loop-place g l = record {
  same : l.serializer.index.ghost_name ≡ l.fn.serializer.index.ghost_name;
  merging : IsMergingTerm l.term.key.now l.term.kind l.fn.serializer.index.now (map source_of l.sources) (drop l.place (map source_of l.sources)) l.begun l.base l.serializer.index.now;
}

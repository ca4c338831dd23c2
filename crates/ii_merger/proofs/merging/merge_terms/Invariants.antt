use Rattle.std.proofs.Common.{◌≡◌, map}
use Rattle.ii_merger.specs.MergeSources.{source_of}
use Rattle.ii_merger.proofs.FieldMergeLemmas.{IsMergingField}
use Rattle.ii_merger.proofs.KeyLemmas.{weight}
use Rattle.ii_merger.proofs.merging.merge_terms.Given as goal

abbrev pub invariant-loop-key : goal.invariant-loop-key
invariant-loop-key g l = record {
  same : l.serializer.index.ghost_name ≡ l.fn.serializer.index.ghost_name;
  merging : IsMergingField l.entry (map source_of l.sources) l.fn.serializer.index.now l.terms l.serializer.index.now;
}

abbrev pub decreases-loop-key : goal.decreases-loop-key
decreases-loop-key g l = weight l.terms

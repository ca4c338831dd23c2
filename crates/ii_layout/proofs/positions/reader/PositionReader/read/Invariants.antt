use Rattle.std.proofs.Common.{◌≡◌, ◌-◌, length}
use Rattle.ii_layout.proofs.PositionLemmas.{KeepsReading, ReadsPart}
use Rattle.ii_layout.proofs.positions.reader.PositionReader.read.Given as goal

abbrev pub invariant-loop-done : goal.invariant-loop-done
invariant-loop-done l =
    (l.self-inside.blocks.deltas ≡ l.fn.self.deltas)
    × ReadsPart l.fn.self.deltas l.fn.self.decodes l.offset (length l.output) l.output l.self-inside.blocks.decodes l.block l.start l.done
    × KeepsReading l.fn.self.block l.fn.self.decodes l.self-inside.blocks.block l.self-inside.blocks.decodes l.offset (length l.output) l.done

abbrev pub decreases-loop-done : goal.decreases-loop-done
decreases-loop-done l = length l.initial.output - l.done

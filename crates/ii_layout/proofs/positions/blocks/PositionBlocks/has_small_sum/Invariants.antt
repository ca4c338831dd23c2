use Rattle.std.proofs.Common.{◌+◌, ◌≤◌}
use Rattle.ii_layout.proofs.PositionSums.{SumsUp}
use Rattle.ii_layout.proofs.positions.blocks.PositionBlocks.has_small_sum.Given as goal

abbrev pub invariant-loop-block : goal.invariant-loop-block
invariant-loop-block l = SumsUp l.self.deltas l.widths l.block l.place l.sum × (l.block_decoder.decodes ≤ l.fn.block_decoder.decodes + l.block)

use Rattle.ii_layout.proofs.AnchorLemmas.{FindsBlocks}
use Rattle.std.proofs.Common.{◌-◌, length}
use Rattle.ii_layout.proofs.positions.blocks.find_blocks.Given as goal

abbrev pub invariant-loop-first : goal.invariant-loop-first
invariant-loop-first l = FindsBlocks l.widths l.body l.stride l.anchors l.place l.first l.anchor

abbrev pub decreases-loop-first : goal.decreases-loop-first
decreases-loop-first l = length l.widths - l.first

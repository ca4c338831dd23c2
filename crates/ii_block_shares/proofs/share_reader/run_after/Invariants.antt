use Rattle.std.proofs.Common.{◌-◌, length}
use Rattle.ii_block_shares.specs.BlockShares.{IsPlace}
use Rattle.ii_block_shares.proofs.share_reader.run_after.Given as goal

abbrev pub decreases-loop-block : goal.decreases-loop-block
decreases-loop-block l = length l.blocks - l.block

abbrev pub invariant-loop-block : goal.invariant-loop-block
invariant-loop-block l = IsPlace l.blocks l.block l.target

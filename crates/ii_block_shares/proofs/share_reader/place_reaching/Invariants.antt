use Rattle.std.proofs.Common.{◌*◌, ◌/◌, ◌^◌, ◌<◌, ◌≤◌, ◌-◌, ℕ, length}
use Rattle.ii_block_shares.specs.BlockShares.{IsPlace, IsWithin, bound_at}
use Rattle.ii_block_shares.proofs.share_reader.place_reaching.Given as goal

abbrev pub decreases-loop-block : goal.decreases-loop-block
decreases-loop-block l = length l.blocks - l.block

abbrev pub invariant-loop-block : goal.invariant-loop-block
invariant-loop-block l = record {
  place : IsPlace l.blocks l.block l.doc;
  low : l.fn.from.doc ≤ l.doc;
  passed : (d share : ℕ) → l.fn.from.doc ≤ d → d < l.doc → IsWithin (bound_at l.blocks d) share → l.weight.weight * share / 2 ^ 12 < l.least;
}

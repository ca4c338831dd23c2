use Rattle.std.proofs.Common.{◌≡◌}
use Rattle.ii_check.specs.CheckedPostings.{IsAtBlock}
use Rattle.ii_check.proofs.checked_postings.CheckedPostings.validate_positions.Given as goal

abbrev pub invariant-loop-block : goal.invariant-loop-block
invariant-loop-block l = record {
  at : IsAtBlock l.self l.skip;
  block : l.skip.block ≡ l._block;
}

use Rattle.std.proofs.Common.{◌-◌, ◌<◌, ◌≤◌}
use Rattle.ii_fieldnorm.specs.Norms.{norm_of_id}
use Rattle.ii_fieldnorm.proofs.code.fieldnorm_to_id.Given as goal

abbrev pub invariant-loop-high : goal.invariant-loop-high
invariant-loop-high l = record {
  order : l.low < l.high;
  within : l.high ≤ 256;
  low : norm_of_id l.low ≤ l.fieldnorm;
  high : l.high < 256 → l.fieldnorm < norm_of_id l.high;
}

abbrev pub decreases-loop-high : goal.decreases-loop-high
decreases-loop-high l = l.high - l.low

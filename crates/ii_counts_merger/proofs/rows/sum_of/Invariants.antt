use Rattle.std.proofs.Common.{◌≡◌, ◌+◌, ◌*◌, ◌≤◌, drop}
use Rattle.std.specs.Prelude.{sum}
use Rattle.ii_counts_merger.proofs.rows.sum_of.Given as goal

abbrev pub invariant-loop-place : goal.invariant-loop-place
invariant-loop-place l = record {
  left : l.total + sum (drop l.place l.row) ≡ sum l.row;
  small : l.total ≤ l.place * 4294967295;
}

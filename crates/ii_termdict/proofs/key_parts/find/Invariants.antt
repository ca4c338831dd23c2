use Rattle.std.proofs.Common.{◌≡◌, ℕ, ◌-◌, ◌<◌, ◌≤◌}
use Rattle.std.specs.Ordering.{nat_cmp}
use Rattle.std.specs.Cmp.Lexicographic.{slice_cmp}
use Rattle.std.specs.declared.cmp.Ordering.TheVariants.{Less, Greater}
use Rattle.ii_termdict.specs.Dictionary.{key_of}
use Rattle.ii_termdict.proofs.key_parts.find.Given as goal

abbrev pub invariant-loop-low : goal.invariant-loop-low
invariant-loop-low l = record {
  order : l.low ≤ l.high;
  within : l.high ≤ l.n;
  below : (j : ℕ) → j < l.low → slice_cmp nat_cmp l.key (key_of l.ends l.body j) ≡ Greater;
  above : (j : ℕ) → l.high ≤ j → j < l.n → slice_cmp nat_cmp l.key (key_of l.ends l.body j) ≡ Less;
}

abbrev pub decreases-loop-low : goal.decreases-loop-low
decreases-loop-low l = l.high - l.low

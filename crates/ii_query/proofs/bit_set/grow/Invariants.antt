use Rattle.std.proofs.Common.{◌≡◌, ℕ, ◌+◌, ◌≤◌, length, max}
use Rattle.ii_query.specs.BitSet.{is_in}
use Rattle.ii_query.proofs.bit_set.grow.Given as goal

abbrev pub invariant-loop-size : goal.invariant-loop-size
invariant-loop-size l = record {
  size : length l.words.items ≡ l.size;
  low : length l.fn.words.items ≤ l.size;
  within : l.size ≤ max (length l.fn.words.items) (l.index + 1);
  kept : (d : ℕ) → is_in l.words.items d ≡ is_in l.fn.words.items d;
}

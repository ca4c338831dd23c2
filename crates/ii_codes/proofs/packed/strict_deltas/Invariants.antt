use Rattle.std.proofs.Common.{◌≡◌, ◌+◌, ◌-◌, ◌≤◌, ◌++◌, true, length, take, drop, get_or}
use Rattle.ii_codes.specs.Blocks.{entries_from, sorted_entries}
use Rattle.ii_codes.proofs.packed.strict_deltas.Given as goal

abbrev pub invariant-loop-k : goal.invariant-loop-k
invariant-loop-k l = record {
  some : 1 ≤ l.k;
  many : length l.entries ≡ 128;
  entries : take l.k l.entries ++ entries_from 1 (get_or l.block (l.k - 1) 0 + 1) (drop l.k l.block) ≡ sorted_entries true l.offset l.block;
}

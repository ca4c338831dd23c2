use Rattle.std.proofs.Common.{◌≡◌, ◌++◌, true, length, take, drop}
use Rattle.ii_codes.specs.Blocks.{unsorted_entries}
use Rattle.ii_codes.proofs.packed.less_one.Given as goal

abbrev pub invariant-loop-k : goal.invariant-loop-k
invariant-loop-k l = record {
  many : length l.entries ≡ 128;
  entries : take l.k l.entries ++ unsorted_entries true (drop l.k l.block) ≡ unsorted_entries true l.block;
}

use Rattle.std.proofs.Common.{◌≡◌, ℕ, ◌+◌, ◌<◌, ◌^◌, ◌++◌, map, take, drop}
use Rattle.std.specs.List.{All}
use Rattle.ii_docset.proofs.postings.add_offset.Given as goal

abbrev pub invariant-loop-i : goal.invariant-loop-i
invariant-loop-i l = record {
  values : take l.i l.values ++ map (λ (v : ℕ). v + l.offset) (drop l.i l.values) ≡ map (λ (v : ℕ). v + l.offset) l.initial.values;
  fits : All (λ (v : ℕ). v + l.offset < 2 ^ 32) (drop l.i l.values);
}

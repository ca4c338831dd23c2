use Rattle.std.proofs.Common.{◌≡◌, ℕ, drop, nat_le}
use Rattle.std.specs.List.{list_all}
use Rattle.ii_check.proofs.check.are_bounded.Given as goal

abbrev pub invariant-loop-freq : goal.invariant-loop-freq
invariant-loop-freq l = list_all (λ (c : ℕ). nat_le c l.bound) l.freqs ≡ list_all (λ (c : ℕ). nat_le c l.bound) (drop l.freq-index l.freqs)

-- What a call through a boxed `dyn` requires.
use Rattle.std.proofs.Common.{ℕ, List, ◌++◌}
use mathlib.Core.List.{Mem, mem-append_right}

-- lifetimes that lie within others, which are in the same list
pub held : {κ lives : List ℕ} → ((a : ℕ) → Mem a (κ ++ lives) → Mem a κ) → (a : ℕ) → Mem a lives → Mem a κ
held {κ = κ} within a m = within a (mem-append_right κ m)

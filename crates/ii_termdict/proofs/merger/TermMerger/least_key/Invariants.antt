use Rattle.std.proofs.Common.{◌≡◌, ◌≤◌, ℕ, List, drop, length}
use Rattle.std.specs.Borrow.{Bor}
use Rattle.std.specs.Option.{option_map}
use Rattle.ii_termdict.specs.TermMerger.{least_key}
use Rattle.ii_termdict.proofs.merger.TermMerger.least_key.Given as goal

abbrev pub invariant-loop-place : goal.invariant-loop-place
invariant-loop-place l = (option_map (λ (k : Bor (List ℕ)). k.now) l.least ≡ least_key (drop l.place l.self-inside.dictionaries.items)) × (l.place ≤ length l.self-inside.dictionaries.items)

abbrev pub decreases-loop-place : goal.decreases-loop-place
decreases-loop-place l = l.place

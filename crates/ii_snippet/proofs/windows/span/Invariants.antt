use Rattle.std.proofs.Common.{◌≡◌, ◌≤◌, take}
use Rattle.std.specs.List.{suffix_len}
use Rattle.ii_snippet.specs.Windows.{is_unwanted}
use Rattle.ii_snippet.proofs.windows.span.Given as goal

abbrev pub invariant-loop-place : goal.invariant-loop-place
invariant-loop-place l = (l.unwanted ≡ suffix_len is_unwanted (take l.place l.tokens)) × (l.unwanted ≤ l.place)

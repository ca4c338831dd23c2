use Rattle.std.proofs.Common.{◌≡◌, ◌+◌, drop}
use Rattle.ii_snippet.specs.Windows.{weight, words_in}
use Rattle.ii_snippet.proofs.windows.weight_of.Given as goal

abbrev pub invariant-loop-place : goal.invariant-loop-place
invariant-loop-place l = l.weight + weight (words_in (drop l.place l.tokens)) ≡ weight (words_in l.tokens)

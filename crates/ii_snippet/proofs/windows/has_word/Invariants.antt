use Rattle.std.proofs.Common.{◌≡◌, drop, nat_eq}
use Rattle.std.specs.List.{list_any}
use Rattle.ii_snippet.specs.Windows.{words_in}
use Rattle.ii_snippet.proofs.windows.has_word.Given as goal

abbrev pub invariant-loop-token : goal.invariant-loop-token
invariant-loop-token l = list_any (nat_eq l.word) (words_in (drop l.token-index l.tokens)) ≡ list_any (nat_eq l.word) (words_in l.tokens)

use Rattle.std.proofs.Common.{◌≡◌, ◌++◌, drop, map}
use Rattle.ii_snippet.specs.Wanted.{one_word, wanted_of}
use Rattle.ii_snippet.proofs.wanted.push_others.Given as goal

abbrev pub invariant-loop-other : goal.invariant-loop-other
invariant-loop-other l = map wanted_of l.words.items ++ map (λ o. one_word o.term) (drop l.other-index l.others) ≡ map wanted_of l.fn.words.items ++ map (λ o. one_word o.term) l.others

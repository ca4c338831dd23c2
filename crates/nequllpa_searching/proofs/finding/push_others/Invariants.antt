use Rattle.std.proofs.Common.{◌≡◌, ◌++◌, drop, map}
use Rattle.nequllpa_searching.proofs.finding.push_others.Given as goal

abbrev pub invariant-loop-other : goal.invariant-loop-other
invariant-loop-other l = map (λ t. t.now) l.terms.items ++ map (λ o. o.term) (drop l.other-index l.others) ≡ map (λ t. t.now) l.fn.terms.items ++ map (λ o. o.term) l.others

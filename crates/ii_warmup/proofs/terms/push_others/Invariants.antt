use Rattle.std.proofs.Common.{◌≡◌, ◌++◌, drop, map}
use Rattle.ii_warmup.specs.QueryTerms.{phrase_requests, term_view}
use Rattle.ii_warmup.proofs.terms.push_others.Given as goal

abbrev pub invariant-loop-other : goal.invariant-loop-other
invariant-loop-other l = map term_view l.terms.items ++ phrase_requests (drop l.other-index l.others) ≡ map term_view l.fn.terms.items ++ phrase_requests l.others

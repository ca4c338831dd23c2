use Rattle.std.proofs.Common.{◌-◌, arith}
use Rattle.ii_query.proofs.HintLemmas.{all_long}
use Rattle.ii_docset_tests.proofs.tests.BelowDocSet.size_hint.Goals as goal

pub returns-clause-enough : goal.returns-clause-enough
returns-clause-enough c =
    let s = c.self.inside in
    let long = all_long s.next (s.end - s.next) in
    rw (← c.self.view_is) (omega (arith, long))

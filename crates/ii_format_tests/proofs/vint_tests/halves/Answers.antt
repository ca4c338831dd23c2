use Rattle.std.proofs.Common.{suc, arith}
use Rattle.ii_codes.proofs.SortedVintLemmas.{falls_by}
use Rattle.ii_format_tests.proofs.vint_tests.halves.Goals as goal

pub returns : goal.returns
returns c = λ offset low.
    let many = c.loop-k.invariant.many in
    let end = c.loop-k-test.false in
    falls_by offset c.loop-k.values
    (λ some. let first = c.loop-k.invariant.values 0 (omega arith) in omega arith)
    (λ k within. let here = c.loop-k.invariant.values k (omega arith) in let next = c.loop-k.invariant.values (suc k) (omega arith) in omega arith)

use Rattle.std.proofs.Common.{arith}
use Rattle.ii_ram_tests.proofs.CheckedCalls.{more_checked}
use Rattle.ii_ram_tests.proofs.memory_index.checked.Goals as goal

pub loop-call-preserved : goal.loop-call-preserved
loop-call-preserved c =
    let more = more_checked _ _ _ _ c.in-Some.call c.loop-call.invariant (omega (arith, c.doc-doc.ensures, c.if-doc-last.false)) (c.may_be_indexed.ensures c.if-not-may_be_indexed.false) in
    rw (c.in_ok-push.ensures.items, c.doc-doc.ensures) more

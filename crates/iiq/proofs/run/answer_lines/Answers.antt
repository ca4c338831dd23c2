use Rattle.std.proofs.Common.{[]}
use Rattle.iiq.specs.Session.{gathering}
use Rattle.std.proofs.KnownBytes.{Appends-nil}
use Rattle.std.proofs.lemmas.Result.{IfOk-weaker, on_err_weaker}
use Rattle.iiq.proofs.RunLemmas.{answering_first, answering_next, answered_all, answered_all_part, answered_no_memory, answered_no_memory_part, answered_part, on_err_from}
use Rattle.iiq.proofs.run.answer_lines.Goals as goal

pub loop-line-init : goal.loop-line-init
loop-line-init g c = rw c.of-lines.ensures (gathering [], c.new-session.ensures, answering_first c.args.commands _ c.args.text.now (Appends-nil _))

pub returns-in_default-reply-clause-ok : goal.returns-in_default-reply-clause-ok
returns-in_default-reply-clause-ok g c =
    IfOk-weaker c.end_run.result _ _
    (λ fine h. rw h.0 (answered_no_memory c.args.commands _ _ _ c.args.text.now c.loop-line.lines c.loop-line.invariant.0 c.loop-line.fine c.loop-line.invariant.2 c.in-Some.line.now c.next.new.self c.in-Some.ensures.part h.1))
    c.end_run.ensures.ok

pub returns-in_default-reply-clause-err : goal.returns-in_default-reply-clause-err
returns-in_default-reply-clause-err g c =
    on_err_weaker c.end_run.result
    (λ h. answered_no_memory_part c.args.commands _ _ _ c.args.text.now c.loop-line.lines c.loop-line.invariant.0 c.loop-line.fine c.loop-line.invariant.2 c.in-Some.line.now c.next.new.self c.in-Some.ensures.part h)
    c.end_run.ensures.err

pub returns-in_err-put-clause-err : goal.returns-in_err-put-clause-err
returns-in_err-put-clause-err g c =
    on_err_from c.from_residual.result
    (answered_part c.args.commands _ _ _ c.args.text.now c.loop-line.lines c.loop-line.invariant.0 c.loop-line.fine c.loop-line.invariant.2 c.in-Some.line.now _ c.next.new.self c.reply.new.session c.in-Some.ensures.part (rw c.as_bytes-in-Some.ensures.value (c.in-Ok.ensures c.loop-line.invariant.0 c.loop-line.invariant.1)) c.in_err-put.ensures.err)

pub loop-line-preserved : goal.loop-line-preserved
loop-line-preserved g c =
    let reply = c.in-Ok.ensures c.loop-line.invariant.0 c.loop-line.invariant.1 in
    rw (c.has_no_error-fine.ensures, c.as_bytes.ensures.value)
    (reply.new, reply.knows, answering_next c.args.commands _ _ _ c.args.text.now c.loop-line.lines c.loop-line.invariant.0 c.loop-line.fine c.loop-line.invariant.2 c.in-Some.line.now _ c.next.new.self c.reply.new.session c.in-Some.ensures.part reply (rw c.as_bytes-in-Some.ensures.value at c.in_ok-put.ensures.ok))

pub returns-clause-ok : goal.returns-clause-ok
returns-clause-ok g c = answered_all c.finish.result c.args.commands _ _ _ c.args.text.now c.loop-line.lines c.loop-line.invariant.0 c.loop-line.fine c.loop-line.invariant.2 c.in_default.ensures.part c.finish.ensures.keeps c.finish.ensures.same

pub returns-clause-err : goal.returns-clause-err
returns-clause-err g c = answered_all_part c.finish.result c.args.commands _ _ _ c.args.text.now c.loop-line.lines c.loop-line.invariant.0 c.loop-line.fine c.loop-line.invariant.2 c.in_default.ensures.part c.finish.ensures.keeps

use Rattle.std.proofs.Common.{refl}
use Rattle.std.proofs.lemmas.Result.{IfOk-weaker}
use Rattle.iiq.proofs.ReplyLemmas.{reply_no_text, reply_none, reply_some}
use Rattle.iiq.proofs.replies.reply.Goals as goal

pub returns-in_default : goal.returns-in_default
returns-in_default c = λ s knows. IfOk-weaker c.from_str.result _ _ (λ text is. reply_no_text c.args.commands s c.args.line.now _ c.args.session.now c.if-is_empty.ensures c.in_default.ensures.cases.0 knows is) c.from_str.ensures.ok

pub returns-in-Some : goal.returns-in-Some
returns-in-Some c = λ s knows. reply_some c.args.commands s c.args.line.now _ _ _ c.if-is_empty.ensures c.in-Ok.ensures.cases.1 (c.in_ok-text.ensures s knows) (rw c.in-Some.is refl)

pub returns-in-None : goal.returns-in-None
returns-in-None c = λ s knows. IfOk-weaker c.from_str-in-None.result _ _ (λ text is. reply_none c.args.commands s c.args.line.now _ _ _ c.if-is_empty.ensures c.in-Ok.ensures.cases.1 (c.in_ok-text.ensures s knows) (rw c.in-None.is refl) is) c.from_str-in-None.ensures.ok

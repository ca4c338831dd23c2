use Rattle.std.proofs.Common.{sym}
use Rattle.iiq.proofs.ReplyLemmas.{answers_look_up}
use Rattle.iiq.proofs.replies.query_reply.Goals as goal

pub returns : goal.returns
unfolding lib.Utf8.encode
returns c = λ s knows.
    let t = c.in_ok-text.ensures s knows in
    answers_look_up s c.in-Some.query c.look_up.new.self _ _ _ t.0 (sym (rw c.in-Some.is at c.in_ok-query.ensures.query)) t.1 t.2 t.3 c.in_ok-push.ensures.bytes

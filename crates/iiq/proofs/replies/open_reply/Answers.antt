use Rattle.std.proofs.Common.{sym}
use Rattle.iiq.proofs.ReplyLemmas.{alone_open}
use Rattle.iiq.proofs.replies.open_reply.Goals as goal

pub returns : goal.returns
returns c = alone_open _ c.in-Some.opening _ (sym (rw c.in-Some.is at c.in_ok-opening.ensures)) c.in_ok-open_text.ensures

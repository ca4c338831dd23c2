use Rattle.std.proofs.Common.{refl}
use Rattle.iiq.proofs.ReplyLemmas.{alone_ids}
use Rattle.iiq.proofs.replies.ids_reply.Goals as goal

pub returns : goal.returns
returns c = rw (← rw c.in-Some.is at c.in_ok-docs.ensures) (alone_ids _ c.in-Some.docs.items _ refl (rw c.deref.ensures.value at c.in_ok-ids_text.ensures))

use Rattle.iiq.proofs.ReplyLemmas.{answers_kept}
use Rattle.iiq.proofs.replies.call_reply.Goals as goal

pub returns-then-branch : goal.returns-then-branch
returns-then-branch c = λ s knows. rw (c.in-Some.is, c.new.ensures.bytes) (answers_kept s _ c.keep.new.self _ (c.in_ok-keep.ensures s knows) c.if-branch.true)

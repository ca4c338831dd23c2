use Rattle.std.proofs.Common.{arith}
use Rattle.iiq.proofs.ReplyLemmas.{few_documents, opens_written, ok_is, ok_no_err}
use Rattle.iiq.proofs.replies.reopened.Goals as goal

pub overflow_cast-docs : goal.overflow_cast-docs
overflow_cast-docs c = omega (arith, few_documents c.args.docs.now c.requires.ascending)

pub unreachable-requires : goal.unreachable-requires
unreachable-requires c = ok_no_err _ _ _ (opens_written c.args.docs.now c.args.postings c.reads_documents_back.ensures c.requires.ascending c.requires.written) c.in-Err.ensures.err

pub returns : goal.returns
returns c = ok_is _ _ _ c.in-Ok.ensures.opened.list (opens_written c.args.docs.now c.args.postings c.reads_documents_back.ensures c.requires.ascending c.requires.written)

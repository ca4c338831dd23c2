use Rattle.std.proofs.Common.{arith, sym}
use Rattle.iiq.proofs.SessionLemmas.{keeps_one_more}
use Rattle.iiq.proofs.session.Session.keep.Goals as goal

pub returns : goal.returns
returns c = λ s knows.
    keeps_one_more c.args.self.now.calls.items c.push.new.self.items c.args.self.now.num_docs c.doc-num_docs.result c.args.self.now.index s c.args.call c.push.new.self c.doc-num_docs.ensures (sym c.if-is_some.ensures) knows c.requires.call (omega arith) c.in_ok-push.ensures.items

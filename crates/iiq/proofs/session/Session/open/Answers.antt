use Rattle.std.proofs.Common.{sym}
use Rattle.iiq.proofs.SessionLemmas.{indexed_now}
use Rattle.iiq.proofs.session.Session.open.Goals as goal

pub returns : goal.returns
returns c = λ s knows.
    indexed_now c.args.self.now.calls.items c.replace-calls.new.dest.items c.args.self.now.num_docs c.args.self.now.index s c.index_of.result (sym c.if-is_some.ensures) knows (rw c.replace-calls.ensures.value at c.index_of.ensures)

use Rattle.std.proofs.Common.{◌≡◌, Ok}
use Rattle.iiq.proofs.SessionLemmas.{looked_up}
use Rattle.iiq.proofs.session.Session.look_up.Goals as goal

pub returns-in-Some-Ok : goal.returns-in-Some-Ok
returns-in-Some-Ok c = λ s knows.
    let t = c.open.ensures s knows in
    let inner : c.in-Some-Ok.field-0 ≡ Ok c.in-Some-Ok.index = rw c.in-Some-Ok.is at c.in-Some-Ok.field-0-is in
    (t.0, t.1, t.2, looked_up c.open.new.self t.0 c.in-Some-Ok.index c.args.query.now.requested c.args.query.now.term c.query_text.result (rw inner at c.in-Some-Ok.is) t.2 c.query_text.ensures)

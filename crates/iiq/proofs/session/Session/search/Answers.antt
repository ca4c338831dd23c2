use Rattle.std.proofs.Common.{◌≡◌, Ok, refl}
use Rattle.iiq.proofs.SearchLemmas.{found_in_session}
use Rattle.iiq.proofs.session.Session.search.Goals as goal

pub returns-in-Some-Ok : goal.returns-in-Some-Ok
returns-in-Some-Ok c = λ s knows.
    let t = c.open.ensures s knows in
    let inner : c.in-Some-Ok.field-0 ≡ Ok c.in-Some-Ok.index = rw c.in-Some-Ok.is at c.in-Some-Ok.field-0-is in
    (t.0, t.1, t.2, found_in_session c.open.new.self t.0 c.in-Some-Ok.index c.args.query c.open.new.self.num_docs c.found_text.result (rw inner at c.in-Some-Ok.is) refl t.2 c.found_text.ensures)

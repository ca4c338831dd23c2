use Rattle.iiq.proofs.session.query_text.Goals as goal

pub returns-in-Some : goal.returns-in-Some
returns-in-Some c = rw c.in-Some.is c.list_text.ensures

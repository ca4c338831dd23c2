use Rattle.std.proofs.Common.{refl}
use Rattle.ii_promises.proofs.SearchingLaws.{matches_are_counted, memory_of_counting}
use Rattle.ii_promises.proofs.searching.matches_are_counted.Goals as goal

pub returns-in-Ok-clause-counted : goal.returns-in-Ok-clause-counted
returns-in-Ok-clause-counted c = λ tokens num_docs found holds norms ascending exact.
    matches_are_counted c.args.query.now tokens c.count.result
    (c.count.ensures.holds c.args.schema.now num_docs tokens (record { readers = c.in-Ok.ensures.holds tokens holds (rw norms.opened refl); norms = c.in-Ok.ensures.norms num_docs tokens norms }) c.requires.fields c.requires.positions) found ascending exact

pub returns-in-Ok-clause-memory : goal.returns-in-Ok-clause-memory
returns-in-Ok-clause-memory c = λ tokens num_docs holds norms.
    memory_of_counting c.args.query.now tokens c.count.result
    (c.count.ensures.holds c.args.schema.now num_docs tokens (record { readers = c.in-Ok.ensures.holds tokens holds (rw norms.opened refl); norms = c.in-Ok.ensures.norms num_docs tokens norms }) c.requires.fields c.requires.positions)

pub returns-in-Err-clause-memory : goal.returns-in-Err-clause-memory
returns-in-Err-clause-memory c = λ tokens num_docs holds norms. c.in-Err.ensures.holds tokens holds (rw norms.opened refl)

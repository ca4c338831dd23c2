use Rattle.std.proofs.Common.{refl}
use Rattle.ii_promises.proofs.SearchingLaws.{matches_are_found, memory_of_search}
use Rattle.ii_promises.proofs.searching.queries_of_files_find_what_matches.Goals as goal

pub returns-in-Ok-clause-found : goal.returns-in-Ok-clause-found
returns-in-Ok-clause-found c = λ tokens num_docs holds norms.
    matches_are_found c.args.query.now tokens c.search.result
    (c.search.ensures.holds c.args.schema.now num_docs tokens (record { readers = c.in-Ok.ensures.holds tokens holds (rw norms.opened refl); norms = c.in-Ok.ensures.norms num_docs tokens norms }) c.requires.fields c.requires.positions)

pub returns-in-Ok-clause-memory : goal.returns-in-Ok-clause-memory
returns-in-Ok-clause-memory c = λ tokens num_docs holds norms.
    memory_of_search c.args.query.now tokens c.search.result
    (c.search.ensures.holds c.args.schema.now num_docs tokens (record { readers = c.in-Ok.ensures.holds tokens holds (rw norms.opened refl); norms = c.in-Ok.ensures.norms num_docs tokens norms }) c.requires.fields c.requires.positions)

pub returns-in-Err-clause-memory : goal.returns-in-Err-clause-memory
returns-in-Err-clause-memory c = λ tokens num_docs holds norms. c.in-Err.ensures.holds tokens holds (rw norms.opened refl)

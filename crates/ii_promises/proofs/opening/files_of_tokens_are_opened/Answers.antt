use Rattle.std.proofs.Common.{refl}
use Rattle.ii_reader.proofs.IndexLemmas.{index_holds}
use Rattle.ii_promises.proofs.IndexingLaws.{memory_alone}
use Rattle.ii_promises.proofs.opening.files_of_tokens_are_opened.Goals as goal

pub returns-clause-holds : goal.returns-clause-holds
returns-clause-holds c = λ tokens num_docs holds norms.
    index_holds c.args.schema.now num_docs tokens c.open_index_with_norms.result (c.open_index_with_norms.ensures.holds tokens holds (rw norms.opened refl)) (c.open_index_with_norms.ensures.norms num_docs tokens norms)

pub returns-clause-memory : goal.returns-clause-memory
returns-clause-memory c = λ tokens num_docs holds norms. memory_alone c.args.schema.now tokens c.open_index_with_norms.result (c.open_index_with_norms.ensures.holds tokens holds (rw norms.opened refl))

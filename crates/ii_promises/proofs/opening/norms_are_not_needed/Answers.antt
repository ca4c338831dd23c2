use Rattle.ii_promises.proofs.IndexingLaws.{memory_alone}
use Rattle.ii_promises.proofs.OpeningLaws.{no_norms, readers_given}
use Rattle.ii_promises.proofs.opening.norms_are_not_needed.Goals as goal

pub returns-clause-holds : goal.returns-clause-holds
returns-clause-holds c = λ tokens holds. readers_given c.args.schema.now tokens c.open_index.result (c.open_index.ensures.holds tokens holds)

pub returns-clause-norms : goal.returns-clause-norms
returns-clause-norms c = no_norms c.args.terms c.args.postings c.args.positions c.args.schema.now c.open_index.result c.open_index.ensures.ok

pub returns-clause-memory : goal.returns-clause-memory
returns-clause-memory c = λ tokens holds. memory_alone c.args.schema.now tokens c.open_index.result (c.open_index.ensures.holds tokens holds)

use Rattle.ii_reader.proofs.IndexLemmas.{many_readers, opened_holds, opened_norms, refused_holds}
use Rattle.ii_reader.proofs.index_files.open_index_with_norms.Goals as goal

pub returns-in-Ok-clause-many : goal.returns-in-Ok-clause-many
returns-in-Ok-clause-many c = many_readers c.args.terms c.args.postings c.args.positions c.args.fieldnorms c.args.schema.now c.in-Ok.index c.in-Ok.ensures.ok

pub returns-in-Ok-clause-holds : goal.returns-in-Ok-clause-holds
returns-in-Ok-clause-holds c = λ tokens holds some. opened_holds c.args.schema.now c.args.terms c.args.postings c.args.positions c.args.fieldnorms tokens c.in-Ok.index holds c.in-Ok.ensures.ok

pub returns-in-Ok-clause-norms : goal.returns-in-Ok-clause-norms
returns-in-Ok-clause-norms c = λ num_docs tokens holds. opened_norms c.args.schema.now c.args.terms c.args.postings c.args.positions c.args.fieldnorms num_docs tokens c.in-Ok.index holds c.in-Ok.ensures.ok

pub returns-in-Err-clause-holds : goal.returns-in-Err-clause-holds
returns-in-Err-clause-holds c = λ tokens holds some. refused_holds c.args.schema.now c.args.terms c.args.postings c.args.positions c.args.fieldnorms tokens c.in-Err.fault holds some c.in-Err.ensures.err

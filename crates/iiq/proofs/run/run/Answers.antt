use Rattle.iiq.proofs.RunLemmas.{nothing_read, no_memory_read, no_memory_read_part}
use Rattle.iiq.proofs.run.run.Goals as goal

pub returns-in-Err-Input-clause-err : goal.returns-in-Err-Input-clause-err
returns-in-Err-Input-clause-err g c = nothing_read c.args.commands _ _

pub returns-clause-ok : goal.returns-clause-ok
returns-clause-ok g c = no_memory_read c.args.commands _ _ _ c.end_run.result c.end_run.ensures.ok

pub returns-clause-err : goal.returns-clause-err
returns-clause-err g c = no_memory_read_part c.args.commands _ _ _ c.end_run.result c.end_run.ensures.err

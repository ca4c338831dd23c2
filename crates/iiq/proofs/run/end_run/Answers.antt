use Rattle.iiq.proofs.RunLemmas.{ended, ended_part}
use Rattle.iiq.proofs.run.end_run.Goals as goal

pub returns-clause-ok : goal.returns-clause-ok
returns-clause-ok g c = ended c.finish.result _ _ _ _ c.in_ok-put.ensures.ok c.finish.ensures.keeps c.finish.ensures.same

pub returns-clause-err : goal.returns-clause-err
returns-clause-err g c = ended_part c.finish.result _ _ _ _ c.in_ok-put.ensures.ok c.finish.ensures.keeps

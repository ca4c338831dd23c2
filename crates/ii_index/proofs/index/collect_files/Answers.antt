use Rattle.std.proofs.Common.{◌≡◌, ◌⊎◌}
use Rattle.ii_index.proofs.IndexLemmas.{left_holds}
use Rattle.ii_index.proofs.index.collect_files.Goals as goal

pub returns-in-Ok-clause-leaves_same : goal.returns-in-Ok-clause-leaves_same
returns-in-Ok-clause-leaves_same g c = λ known entries n ts holds files left.
    left_holds entries (g.D.Directory.seen c.args.directory.now) files n ts ((c.collect_garbage.ensures.leaves_same known).each files left) holds

pub returns-in-Err-clause-leaves_same : goal.returns-in-Err-clause-leaves_same
returns-in-Err-clause-leaves_same g c = λ known entries n ts holds files left.
    left_holds entries (g.D.Directory.seen c.args.directory.now) files n ts ((c.collect_garbage.ensures.leaves_same known).each files left) holds

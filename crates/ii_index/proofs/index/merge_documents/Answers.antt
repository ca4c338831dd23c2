use Rattle.ii_index.proofs.IndexLemmas.{merged_holds}
use Rattle.ii_index.proofs.index.merge_documents.Goals as goal

pub returns-in-Ok-clause-same : goal.returns-in-Ok-clause-same
returns-in-Ok-clause-same g c = λ known n ts h.
    merged_holds c.args.schema.now (g.D.Directory.seen c.merge_last.new.directory) n ts h.segments h.have (c.in-Ok.ensures.same known h.segments h.holds)

pub returns-in-Ok-clause-leaves_same : goal.returns-in-Ok-clause-leaves_same
returns-in-Ok-clause-leaves_same g c = λ known n ts h files left.
    merged_holds c.args.schema.now files n ts h.segments h.have (c.merge_last.ensures.leaves_same known h.segments h.holds files left)

pub returns-in-Err-clause-leaves_same : goal.returns-in-Err-clause-leaves_same
returns-in-Err-clause-leaves_same g c = λ known n ts h files left.
    merged_holds c.args.schema.now files n ts h.segments h.have (c.merge_last.ensures.leaves_same known h.segments h.holds files left)

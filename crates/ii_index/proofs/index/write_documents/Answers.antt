use Rattle.std.proofs.Common.{refl}
use Rattle.ii_index.specs.Segments.{no_documents}
use Rattle.ii_index.proofs.IndexLemmas.{left_holds}
use Rattle.ii_index.proofs.PendingLemmas.{pending_written}
use Rattle.ii_index.proofs.index.write_documents.Goals as goal

pub returns-in-Ok-clause-written : goal.returns-in-Ok-clause-written
returns-in-Ok-clause-written g c = λ known k us pending.
    let s = c.args.schema.now in
    pending_written s (g.D.Directory.seen c.flush_documents.new.directory) c.in-Ok.flushed (no_documents s) k us refl (c.in-Ok.ensures.written known k us pending)

pub returns-in-Ok-clause-leaves_same : goal.returns-in-Ok-clause-leaves_same
returns-in-Ok-clause-leaves_same g c = λ known k us pending n ts h files left.
    left_holds c.args.schema.now.schema (g.D.Directory.seen c.args.directory.now) files n ts ((c.flush_documents.ensures.leaves_same known k us pending).each files left) h

pub returns-in-Err-clause-leaves_same : goal.returns-in-Err-clause-leaves_same
returns-in-Err-clause-leaves_same g c = λ known k us pending n ts h files left.
    left_holds c.args.schema.now.schema (g.D.Directory.seen c.args.directory.now) files n ts ((c.flush_documents.ensures.leaves_same known k us pending).each files left) h

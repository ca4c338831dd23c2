use Rattle.ii_folder_promises.proofs.IndexLaws.{index_kept}
use Rattle.ii_folder_promises.proofs.index.with_document.Goals as goal

pub returns-clause-index : goal.returns-clause-index
returns-clause-index g c = λ k us pending n ts held.
    let seen = g.D.Directory.seen in
    let writer = c.args.writer in
    index_kept writer.index.schema c.add_document.new.self.index.schema (seen writer.index.directory) (seen c.add_document.new.self.index.directory) n ts c.in-Ok.ensures.schema (c.in-Ok.ensures.same c.requires k us pending) held

pub returns-clause-pending : goal.returns-clause-pending
returns-clause-pending g c = λ k us pending. (c.in-Ok.ensures.added c.requires).pending k us pending

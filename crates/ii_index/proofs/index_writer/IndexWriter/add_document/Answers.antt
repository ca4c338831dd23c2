use Rattle.std.proofs.Common.{◌+◌, ◌++◌}
use Rattle.ii_index.proofs.PendingLemmas.{adds_line}
use Rattle.ii_index.proofs.index_writer.IndexWriter.add_document.Goals as goal

pub returns-in-Ok-clause-added : goal.returns-in-Ok-clause-added
returns-in-Ok-clause-added g c =
    let were = rw (← c.self.view_is) at c.num_pending.ensures.calls in
    rw (← c.self.view_is)
    (λ known.
    record {
      calls = c.in-Ok.ensures.ok.0;
      is_document = c.in-Ok.ensures.ok.2;
      pending = λ k us h. adds_line c.self.inside.index.schema c.self.inside.documents c.push_line.new.self c.args.document.now c.self.invariant.0 were c.in-Ok.ensures.ok (g.D.Directory.seen c.self.inside.index.directory) c.self.inside.flushed k us h;
    })

use Rattle.std.proofs.Common.{subst}
use Rattle.ii_io.specs.CountingWriter.{CountingWriterState, Grows}
use Rattle.ii_io.proofs.WriteSteps.{Grows-trans, unless_closed_grows}
use Rattle.ii_recorder.proofs.index_bodies.IndexBodies.finish_field.Goals as goal

pub returns-clause-grow : goal.returns-clause-grow
returns-clause-grow g c =
    let written = unless_closed_grows c.args.places.now.closed c.writer.result.now c.finish-written.new.writer _ c.finish-written.result c.finish-written.ensures.written in
    let terms = subst (λ (w : CountingWriterState). Grows w c.finish-written.new.writer) c.writer.ensures.value written in
    let more = c.flush.ensures.grow in
    rw (← c.self.view_is) (record { terms = Grows-trans c.self.inside.terms.writer c.finish-written.new.writer c.flush.new.self.terms.writer terms more.terms; postings = more.postings; positions = more.positions })

use Rattle.std.proofs.Common.{subst, ◌∙◌}
use Rattle.ii_io.specs.CountingWriter.{CountingWriterState, IsFull}
use Rattle.ii_io.specs.NumberLemmas.{length_le_bytes}
use Rattle.ii_recorder.proofs.index_bodies.IndexBodies.begin_field.Goals as goal

pub returns-clause-full : goal.returns-clause-full
returns-clause-full g c = rw (← c.self.view_is) (λ e.
    let full = c.serialize.ensures.written.limit e in
    subst (λ (w : CountingWriterState). IsFull w 8) (c.writer.ensures.value ∙ c.begin_body-3.ensures.writer) (rw length_le_bytes at full))

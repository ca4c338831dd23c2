use Rattle.ii_io.proofs.WriteSteps.{grows_not, unless_closed_grows}
use Rattle.ii_recorder.proofs.index_bodies.IndexBodies.close.Goals as goal

pub returns-then-is_err-clause-grow : goal.returns-then-is_err-clause-grow
returns-then-is_err-clause-grow g c = rw (← c.self.view_is) (
  unless_closed_grows c.self.inside.terms.closed c.self.inside.terms.writer c.close-terms_write.result.0 _ c.close-terms_write.result.1 c.close-terms_write.ensures.written,
  grows_not c.self.inside.postings.writer c.into_writer.result c.into_writer.ensures,
  grows_not c.self.inside.positions.writer c.into_writer-then-is_err.result c.into_writer-then-is_err.ensures,
)

pub returns-then-is_err-2-clause-grow : goal.returns-then-is_err-2-clause-grow
returns-then-is_err-2-clause-grow g c = rw (← c.self.view_is) (
  unless_closed_grows c.self.inside.terms.closed c.self.inside.terms.writer c.close-terms_write.result.0 _ c.close-terms_write.result.1 c.close-terms_write.ensures.written,
  unless_closed_grows c.self.inside.postings.closed c.self.inside.postings.writer c.close-postings_write.result.0 _ c.close-postings_write.result.1 c.close-postings_write.ensures.written,
  grows_not c.self.inside.positions.writer c.into_writer-then-is_err-2.result c.into_writer-then-is_err-2.ensures,
)

pub returns-clause-grow : goal.returns-clause-grow
returns-clause-grow g c = rw (← c.self.view_is) (
  unless_closed_grows c.self.inside.terms.closed c.self.inside.terms.writer c.close-terms_write.result.0 _ c.close-terms_write.result.1 c.close-terms_write.ensures.written,
  unless_closed_grows c.self.inside.postings.closed c.self.inside.postings.writer c.close-postings_write.result.0 _ c.close-postings_write.result.1 c.close-postings_write.ensures.written,
  unless_closed_grows c.self.inside.positions.closed c.self.inside.positions.writer c.close-positions_write.result.0 _ c.close-positions_write.result.1 c.close-positions_write.ensures.written,
)

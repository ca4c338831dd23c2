use Rattle.ii_io.proofs.WriteSteps.{grows_not}
use Rattle.ii_recorder.proofs.serializer.InvertedIndexSerializer.close.Goals as goal

pub returns-then-is_closed-clause-grow : goal.returns-then-is_closed-clause-grow
returns-then-is_closed-clause-grow g c =
    let as_they_stand = c.into_writers-terms.ensures in
    rw (← c.self.view_is) (
      grows_not c.self.inside.bodies.terms.writer c.into_writers-terms.result.0 as_they_stand.terms,
      grows_not c.self.inside.bodies.postings.writer c.into_writers-terms.result.1 as_they_stand.postings,
      grows_not c.self.inside.bodies.positions.writer c.into_writers-terms.result.2 as_they_stand.positions,
    )

use Rattle.ii_recorder.proofs.IndexLemmas.{field_finished, on_ok_then}
use Rattle.ii_recorder.proofs.HeldTermLemmas.{field_holds}
use Rattle.ii_recorder.proofs.serializer.InvertedIndexSerializer.finish_field.Goals as goal

pub returns-clause-wrote : goal.returns-clause-wrote
returns-clause-wrote g c = rw (← c.self.view_is) (λ initial field tokens norms ts h.
    on_ok_then c.finish_field-finished.result (λ more. field_finished initial c.self.inside.bodies c.finish_field-finished.new.self field tokens c.self.inside.term.mode ts c.self.inside.places h.bodies h.terms more) c.finish_field-finished.ensures.wrote)

pub returns-clause-holds : goal.returns-clause-holds
returns-clause-holds g c = rw (← c.self.view_is) (λ initial field tokens norms ts h.
    on_ok_then c.finish_field-finished.result (λ sorted. field_holds c.self.inside.term.mode tokens ts c.self.inside.places h.counted h.terms sorted) c.finish_field-finished.ensures.holds)

use Rattle.std.proofs.Common.{sym, ◌∙◌}
use Rattle.ii_io.proofs.WriteSteps.{on_ok_went}
use Rattle.ii_recorder.proofs.GrowthLemmas.{AllGrow-trans}
use Rattle.ii_recorder.proofs.serializer.InvertedIndexSerializer.end_field.Goals as goal

pub returns-clause-wrote_last : goal.returns-clause-wrote_last
returns-clause-wrote_last g c = λ initial field tokens norms ts key inside h.
    let went = sym c.if-is_err.false ∙ c.is_err.ensures.value in
    let writing = on_ok_went c.end_term-ended.result went (c.end_term-ended.ensures.writing initial field tokens norms ts key inside h) in
    let mode = on_ok_went c.end_term-ended.result went c.end_term-ended.ensures.mode in
    rw mode at (c.finish_field.ensures.wrote initial field tokens norms _ writing)

pub returns-clause-holds_last : goal.returns-clause-holds_last
returns-clause-holds_last g c = λ initial field tokens norms ts key inside h.
    let went = sym c.if-is_err.false ∙ c.is_err.ensures.value in
    let writing = on_ok_went c.end_term-ended.result went (c.end_term-ended.ensures.writing initial field tokens norms ts key inside h) in
    let mode = on_ok_went c.end_term-ended.result went c.end_term-ended.ensures.mode in
    rw mode at (c.finish_field.ensures.holds initial field tokens norms _ writing)

pub returns-clause-grow : goal.returns-clause-grow
returns-clause-grow g c =
    AllGrow-trans c.args.self.now.bodies c.end_term-ended.new.self.bodies c.finish_field.new.self.bodies c.end_term-ended.ensures.grow c.finish_field.ensures.grow

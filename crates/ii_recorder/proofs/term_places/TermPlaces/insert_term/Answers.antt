use Rattle.std.proofs.Common.{◌∙◌, sym}
use Rattle.ii_io.proofs.WriteSteps.{on_ok_went}
use Rattle.ii_termstore.proofs.ReadBackLemmas.{end_at_last, joined_more}
use Rattle.ii_recorder.proofs.term_places.TermPlaces.insert_term.Goals as goal

pub insert_value-added-requires-clause-joined : goal.insert_value-added-requires-clause-joined
insert_value-added-requires-clause-joined c = λ _. joined_more c.self.inside.dictionary.infos _ c.self.invariant.0 c.self.invariant.1

pub invariant_of-self-2 : goal.invariant_of-self-2
invariant_of-self-2 c =
    let infos = c.self.inside.dictionary.infos in
    let is = on_ok_went c.insert_value-added.result (sym c.if-is_err.false ∙ c.is_err.ensures.value) c.insert_value-added.ensures.ok in
    rw is (joined_more infos _ c.self.invariant.0 c.self.invariant.1, end_at_last infos _, c.if-postings_end-ge-OFFSET_LIMIT.false, c.if-positions_end-ge-OFFSET_LIMIT.false)

use Rattle.std.proofs.Common.{◌∙◌, ap, Some}
use Rattle.ii_recorder.specs.Recorded.{RecorderState, begun}
use Rattle.ii_recorder.proofs.StateLemmas.{positions_begun}
use Rattle.ii_recorder.proofs.recorder.TfAndPositionRecorderRecorder.new_doc.Goals as goal

pub invariant_of-self-2 : goal.invariant_of-self-2
invariant_of-self-2 c =
    let none = rw (← c.self.view_is) at c.requires.closed in
    let above = rw (← c.self.view_is) at c.requires.above in
    let wrote = rw c.saturating_sub.ensures at c.in_ok-write_u32_vint.ensures.ok in
    (positions_begun c.self.inside.positions.items c.write_u32_vint.new.output.items c.self.inside.last c.self.inside.term_freq c.self.inside.last_position c.self.inside.doc_freq c.args.doc c.saturating_add-self-inside.result c.self.invariant none above
    c.ranges.doc.fits wrote c.saturating_add-self-inside.ensures).keeps

pub returns-clause-ok : goal.returns-clause-ok
returns-clause-ok c =
    let none = rw (← c.self.view_is) at c.requires.closed in
    let above = rw (← c.self.view_is) at c.requires.above in
    let wrote = rw c.saturating_sub.ensures at c.in_ok-write_u32_vint.ensures.ok in
    (positions_begun c.self.inside.positions.items c.write_u32_vint.new.output.items c.self.inside.last c.self.inside.term_freq c.self.inside.last_position c.self.inside.doc_freq c.args.doc c.saturating_add-self-inside.result c.self.invariant none above
    c.ranges.doc.fits wrote c.saturating_add-self-inside.ensures).state
    ∙ ap (λ (s : RecorderState). record s { pending = Some (begun s.option c.args.doc) }) c.self.view_is

use Rattle.std.proofs.Common.{◌∙◌, ap, Some}
use Rattle.ii_recorder.specs.Recorded.{RecorderState, begun}
use Rattle.ii_recorder.proofs.StateLemmas.{docs_begun}
use Rattle.ii_recorder.proofs.recorder.DocIdRecorderRecorder.new_doc.Goals as goal

pub invariant_of-self-2 : goal.invariant_of-self-2
invariant_of-self-2 c =
    let none = rw (← c.self.view_is) at c.requires.closed in
    let above = rw (← c.self.view_is) at c.requires.above in
    let wrote = rw c.saturating_sub.ensures at c.in_ok-push_vint.ensures.ok in
    (docs_begun c.self.inside.deltas.items c.push_vint.new.output.items c.self.inside.last c.self.inside.is_open c.args.doc c.self.invariant none above c.ranges.doc.fits wrote).keeps

pub returns-clause-ok : goal.returns-clause-ok
returns-clause-ok c =
    let none = rw (← c.self.view_is) at c.requires.closed in
    let above = rw (← c.self.view_is) at c.requires.above in
    let wrote = rw c.saturating_sub.ensures at c.in_ok-push_vint.ensures.ok in
    (docs_begun c.self.inside.deltas.items c.push_vint.new.output.items c.self.inside.last c.self.inside.is_open c.args.doc c.self.invariant none above c.ranges.doc.fits wrote).state
    ∙ ap (λ (s : RecorderState). record s { pending = Some (begun s.option c.args.doc) }) c.self.view_is

use Rattle.std.proofs.Common.{◌≡◌, ◌∙◌, ◌+◌, ◌-◌, ap, arith, sym}
use Rattle.std.specs.Prelude.{max}
use Rattle.ii_docset.specs.Cursor.{positions_at}
use Rattle.ii_docset.proofs.CursorLemmas.{positions_in_order}
use Rattle.ii_query.specs.declared.phrase.TheConstants.{BEFORE_TEXT}
use Rattle.ii_query.specs.PositionPiece.{num_passed}
use Rattle.ii_query.proofs.WindowLemmas.{window_kept, window_least, window_none}
use Rattle.ii_query.proofs.phrase.PhrasePart.next_window.Goals as goal

pub returns-in_default-clause-raised : goal.returns-in_default-clause-raised
returns-in_default-clause-raised g c n up =
    let s = c.self.inside in
    let distance = c.from-distance.ensures in
    let least = c.saturating_sub-least.ensures in
    rw (← c.self.view_is) (window_none c.args.slop c.args.low n s.distance c.saturating_sub-least.result (num_passed s.piece) (num_passed c.next_from.new.self) (positions_at (g.P.DocSet.rest s.postings)) c.next_from.ensures.later (omega (arith, distance, least)) (sym c.in_default.is ∙ c.next_from.ensures.position) up)

pub returns-clause-later : goal.returns-clause-later
returns-clause-later g c w up =
    let s = c.self.inside in
    let distance = c.from-distance.ensures in
    let least = c.saturating_sub-least.ensures in
    let kept = window_kept c.args.slop c.args.low w s.distance c.saturating_sub-least.result (num_passed s.piece) (num_passed c.next_from.new.self) (positions_at (g.P.DocSet.rest s.postings)) c.next_from.ensures.later (omega (arith, distance, least)) up in
    rw (← c.self.view_is, c.next_from.ensures.rest) kept

pub returns-clause-raised : goal.returns-clause-raised
returns-clause-raised g c =
    let s = c.self.inside in
    let distance = c.from-distance.ensures in
    let least = c.saturating_sub-least.ensures in
    let position = c.from-end.ensures in
    let slop = c.from.ensures in
    let end = c.saturating_sub.ensures in
    let start = c.max.ensures ∙ ap (max c.args.low) (let same : c.saturating_sub.result ≡ c.in-Some.position + BEFORE_TEXT - (s.distance + c.args.slop) = omega (arith, distance, position, slop, end) in same) in
    let from = c.in-Some.ensures.from in
    rw (← c.self.view_is)
    (window_least c.args.slop c.args.low s.distance c.saturating_sub-least.result (num_passed s.piece) (num_passed c.next_from.new.self) c.in-Some.position c.max.result (positions_at (g.P.DocSet.rest s.postings)) c.next_from.ensures.later (omega (arith, distance, least))
    (positions_in_order (g.P.DocSet.rest s.postings) c.doc-doc.ensures.sound) c.in-Some.ensures.position from start)

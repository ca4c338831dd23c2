use Rattle.std.proofs.Common.{◌≡◌, ◌∙◌, List, drop, length, sym, ap, arith}
use Rattle.ii_docset.proofs.CursorLemmas.{length_below, length_step, nothing_left}
use Rattle.ii_query.proofs.UnionLemmas.{next_from}
use Rattle.ii_query.specs.WorkLaws.{all_went_on, none_went}
use Rattle.ii_query.proofs.query_cursor.QueryCursor.count_each.Goals as goal

pub loop-doc-init : goal.loop-doc-init
loop-doc-init g c =
    let below = length_below c.args.self.now.rest c.current-doc.ensures.sound.ascending in
    record {
      at = record { sound = c.current-doc.ensures.sound; here = c.current-doc.ensures.doc };
      counted = omega arith;
      few = omega (arith, below);
      work = none_went g.T.DocSet.went g.met.T.DocSet.went_nowhere c.args.self.now.cursors;
    }

pub loop-doc-preserved : goal.loop-doc-preserved
loop-doc-preserved g c =
    let l = c.loop-doc in
    let low = c.loop-doc-test.true in
    let here = l.invariant.at.here in
    let next : c.go_on-doc.new.self.rest ≡ drop 1 l.self.rest = c.go_on-doc.ensures.rest ∙ sym (next_from l.doc l.self.rest l.invariant.at.sound.ascending here low) in
    let fewer = ap (λ (es : List _). length es) next in
    let step = length_step l.self.rest (omega (arith, here, low)) in
    let counted = l.invariant.counted in
    record {
      at = record { sound = c.go_on-doc.ensures.sound; here = c.go_on-doc.ensures.doc };
      counted = omega (arith, fewer, step, counted);
      few = l.invariant.few;
      work = all_went_on g.T.DocSet.went g.met.T.DocSet.went_on c.args.self.now.cursors l.self.cursors c.go_on-doc.new.self.cursors l.invariant.work c.go_on-doc.ensures.work;
    }

pub loop-doc-smaller : goal.loop-doc-smaller
loop-doc-smaller g c =
    let l = c.loop-doc in
    let low = c.loop-doc-test.true in
    let here = l.invariant.at.here in
    let next : c.go_on-doc.new.self.rest ≡ drop 1 l.self.rest = c.go_on-doc.ensures.rest ∙ sym (next_from l.doc l.self.rest l.invariant.at.sound.ascending here low) in
    let fewer = ap (λ (es : List _). length es) next in
    let step = length_step l.self.rest (omega (arith, here, low)) in
    omega (arith, fewer, step)

pub returns-clause-count : goal.returns-clause-count
returns-clause-count g c =
    let l = c.loop-doc in
    let none = nothing_left l.self.rest l.invariant.at.sound.ascending (let here = l.invariant.at.here in let end = c.loop-doc-test.false in omega (arith, here, end)) in
    let nothing = ap (λ (es : List _). length es) none in
    let counted = l.invariant.counted in
    omega (arith, nothing, counted)

pub returns-clause-rest : goal.returns-clause-rest
returns-clause-rest g c =
    let l = c.loop-doc in
    sym (nothing_left l.self.rest l.invariant.at.sound.ascending (let here = l.invariant.at.here in let end = c.loop-doc-test.false in omega (arith, here, end)))

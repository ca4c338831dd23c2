use Rattle.std.proofs.Common.{◌≡◌, ◌∙◌, ◌+◌, List, drop, length, refl, sym, ap, arith}
use Rattle.ii_docset.proofs.CursorLemmas.{length_below, length_step, nothing_left}
use Rattle.ii_query.specs.Combined.{union_of}
use Rattle.ii_query.specs.QueryCursor.{WentTo, cursors_under, rests}
use Rattle.ii_query.specs.WorkLaws.{all_went_on, none_went}
use Rattle.ii_query.proofs.PartsLemmas.{depth_stays, union_next, work_under}
use Rattle.ii_query.proofs.query_cursor.count_union.Goals as goal

pub loop-doc-init : goal.loop-doc-init
loop-doc-init g c =
    let below = length_below (union_of (rests c.args.parts.now.items)) c.least_doc-doc.ensures.at.sound.ascending in
    record {
      at = c.least_doc-doc.ensures.at;
      counted = omega arith;
      few = omega (arith, below);
      depth = refl;
      work = none_went g.T.DocSet.went g.met.T.DocSet.went_nowhere (cursors_under c.args.parts.now.items);
    }

pub loop-doc-preserved : goal.loop-doc-preserved
loop-doc-preserved g c =
    let l = c.loop-doc in
    let went = g.T.DocSet.went in
    let after = c.go_to_each-doc.new.parts.items in
    let R = WentTo went (l.doc + 1) in
    let low = c.loop-doc-test.true in
    let here = l.invariant.at.here in
    let next : union_of (rests after) ≡ drop 1 (union_of (rests l.parts.items)) = union_next went l.doc l.parts.items after l.invariant.at low c.go_to_each-doc.ensures.went in
    let fewer = ap (λ (es : List _). length es) next in
    let step = length_step (union_of (rests l.parts.items)) (omega (arith, here, low)) in
    let counted = l.invariant.counted in
    record {
      at = c.go_to_each-doc.ensures.at;
      counted = omega (arith, fewer, step, counted);
      few = l.invariant.few;
      depth = depth_stays R (λ o n w. w.depth) l.parts.items after c.go_to_each-doc.ensures.went ∙ l.invariant.depth;
      work = all_went_on went g.met.T.DocSet.went_on (cursors_under c.args.parts.now.items) (cursors_under l.parts.items) (cursors_under after) l.invariant.work (work_under went R (λ o n w. w.work) l.parts.items after c.go_to_each-doc.ensures.went);
    }

pub loop-doc-smaller : goal.loop-doc-smaller
loop-doc-smaller g c =
    let l = c.loop-doc in
    let low = c.loop-doc-test.true in
    let here = l.invariant.at.here in
    let next : union_of (rests c.go_to_each-doc.new.parts.items) ≡ drop 1 (union_of (rests l.parts.items)) = union_next g.T.DocSet.went l.doc l.parts.items c.go_to_each-doc.new.parts.items l.invariant.at low c.go_to_each-doc.ensures.went in
    let fewer = ap (λ (es : List _). length es) next in
    let step = length_step (union_of (rests l.parts.items)) (omega (arith, here, low)) in
    omega (arith, fewer, step)

pub returns-clause-count : goal.returns-clause-count
returns-clause-count g c =
    let l = c.loop-doc in
    let none = nothing_left (union_of (rests l.parts.items)) l.invariant.at.sound.ascending (let here = l.invariant.at.here in let end = c.loop-doc-test.false in omega (arith, here, end)) in
    let nothing = ap (λ (es : List _). length es) none in
    let counted = l.invariant.counted in
    omega (arith, nothing, counted)

pub returns-clause-rest : goal.returns-clause-rest
returns-clause-rest g c =
    let l = c.loop-doc in
    sym (nothing_left (union_of (rests l.parts.items)) l.invariant.at.sound.ascending (let here = l.invariant.at.here in let end = c.loop-doc-test.false in omega (arith, here, end)))

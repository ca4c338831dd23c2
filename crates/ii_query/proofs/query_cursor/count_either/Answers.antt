use Rattle.std.proofs.Common.{List, length, ap, arith}
use Rattle.ii_docset.proofs.CursorLemmas.{length_below, length_step}
use Rattle.ii_query.specs.Combined.{either}
use Rattle.ii_query.proofs.NestedLemmas.{either_at, either_ended}
use Rattle.ii_query.proofs.UnionLemmas.{either_at_most, either_next}
use Rattle.ii_query.specs.WorkLaws.{all_went_on, none_went}
use Rattle.ii_query.proofs.query_cursor.count_either.Goals as goal

pub loop-doc-init : goal.loop-doc-init
loop-doc-init g c =
    let at = either_at c.args.first.now.rest c.args.other.now.rest c.current-one.result c.current-two.result c.current-one.ensures.sound c.current-two.ensures.sound c.current-one.ensures.doc c.current-two.ensures.doc in
    let below = length_below (either c.args.first.now.rest c.args.other.now.rest) at.sound.ascending in
    record {
      first = record { sound = c.current-one.ensures.sound; here = c.current-one.ensures.doc };
      other = record { sound = c.current-two.ensures.sound; here = c.current-two.ensures.doc };
      at = rw (c.min-doc.ensures) at;
      counted = omega arith;
      few = omega (arith, below);
      first_work = none_went g.T.DocSet.went g.met.T.DocSet.went_nowhere c.args.first.now.cursors;
      other_work = none_went g.T.DocSet.went g.met.T.DocSet.went_nowhere c.args.other.now.cursors;
    }

pub pass-one-requires-clause-least : goal.pass-one-requires-clause-least
pass-one-requires-clause-least g c =
    let i = c.loop-doc.invariant in
    let most = (either_at_most c.loop-doc.first.rest c.loop-doc.other.rest i.first.sound.ascending i.other.sound.ascending).0 in
    let here = i.at.here in
    let first = i.first.here in
    omega (arith, most, here, first)

pub pass-two-requires-clause-least : goal.pass-two-requires-clause-least
pass-two-requires-clause-least g c =
    let i = c.loop-doc.invariant in
    let most = (either_at_most c.loop-doc.first.rest c.loop-doc.other.rest i.first.sound.ascending i.other.sound.ascending).1 in
    let here = i.at.here in
    let other = i.other.here in
    omega (arith, most, here, other)

pub loop-doc-smaller : goal.loop-doc-smaller
loop-doc-smaller g c =
    let l = c.loop-doc in
    let low = c.loop-doc-test.true in
    let here = l.invariant.at.here in
    let next = either_next l.doc l.first.rest l.other.rest c.pass-one.new.self.rest c.pass-two.new.self.rest l.invariant.at.sound here low c.pass-one.ensures.rest c.pass-two.ensures.rest in
    let fewer = ap (λ (es : List _). length es) next in
    let step = length_step (either l.first.rest l.other.rest) (omega (arith, here, low)) in
    omega (arith, fewer, step)

pub loop-doc-preserved : goal.loop-doc-preserved
loop-doc-preserved g c =
    let l = c.loop-doc in
    let low = c.loop-doc-test.true in
    let here = l.invariant.at.here in
    let next = either_next l.doc l.first.rest l.other.rest c.pass-one.new.self.rest c.pass-two.new.self.rest l.invariant.at.sound here low c.pass-one.ensures.rest c.pass-two.ensures.rest in
    let fewer = ap (λ (es : List _). length es) next in
    let step = length_step (either l.first.rest l.other.rest) (omega (arith, here, low)) in
    let counted = l.invariant.counted in
    record {
      first = record { sound = c.pass-one.ensures.sound; here = c.pass-one.ensures.doc };
      other = record { sound = c.pass-two.ensures.sound; here = c.pass-two.ensures.doc };
      at = rw (c.min-doc-in-loop-doc.ensures) (either_at c.pass-one.new.self.rest c.pass-two.new.self.rest c.pass-one.result c.pass-two.result c.pass-one.ensures.sound c.pass-two.ensures.sound c.pass-one.ensures.doc c.pass-two.ensures.doc);
      counted = omega (arith, fewer, step, counted);
      few = l.invariant.few;
      first_work = all_went_on g.T.DocSet.went g.met.T.DocSet.went_on c.args.first.now.cursors l.first.cursors c.pass-one.new.self.cursors l.invariant.first_work c.pass-one.ensures.work;
      other_work = all_went_on g.T.DocSet.went g.met.T.DocSet.went_on c.args.other.now.cursors l.other.cursors c.pass-two.new.self.cursors l.invariant.other_work c.pass-two.ensures.work;
    }

pub returns-clause-count : goal.returns-clause-count
returns-clause-count g c =
    let l = c.loop-doc in
    let none = either_ended l.first.rest l.other.rest l.doc l.invariant.first.sound l.invariant.other.sound l.invariant.at.here c.loop-doc-test.false in
    let counted = rw (none.0, none.1) at l.invariant.counted in
    omega (arith, counted)

pub returns-clause-first : goal.returns-clause-first
returns-clause-first g c =
    let l = c.loop-doc in
    (either_ended l.first.rest l.other.rest l.doc l.invariant.first.sound l.invariant.other.sound l.invariant.at.here c.loop-doc-test.false).0

pub returns-clause-other : goal.returns-clause-other
returns-clause-other g c =
    let l = c.loop-doc in
    (either_ended l.first.rest l.other.rest l.doc l.invariant.first.sound l.invariant.other.sound l.invariant.at.here c.loop-doc-test.false).1

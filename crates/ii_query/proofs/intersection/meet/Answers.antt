use Rattle.std.proofs.Common.{[], List, ℕ, ap, map, ◌∙◌, refl}
use Rattle.ii_base.specs.Entries.{document}
use Rattle.ii_docset.proofs.IntersectionLemmas.{asked_for, at_end, bound_above, bound_more, bound_target}
use Rattle.ii_query.proofs.PickedLemmas.{common_at, common_found}
use Rattle.ii_query.proofs.intersection.meet.Goals as goal

pub returns-in-Found-clause-at : goal.returns-in-Found-clause-at
returns-in-Found-clause-at g c =
    let here = c.loop-doc.invariant.here in
    record {
      sound = c.loop-doc.invariant.sound;
      here = common_at (g.A.DocSet.rest c.loop-doc.first) (g.B.DocSet.rest c.seek_danger.new.self) (rw (← here) c.loop-doc-test.true) (c.in-Found.ensures.answer.1 ∙ here);
    }

pub returns-in-Found-clause-rest : goal.returns-in-Found-clause-rest
returns-in-Found-clause-rest g c =
    let es = g.A.DocSet.rest c.loop-doc.first in
    let asked = g.B.DocSet.rest c.loop-doc.other in
    let told = g.B.DocSet.rest c.seek_danger.new.self in
    let h = asked_for es asked told c.loop-doc.doc c.loop-doc.invariant.here c.loop-doc.invariant.sound c.loop-doc-test.true c.seek_danger.ensures.rest c.seek_danger.ensures.sound in
    ap (λ (docs : List ℕ). map document docs) (common_found es asked told c.loop-doc.doc h c.in-Found.ensures.answer.1 ∙ c.loop-doc.invariant.met)

pub seek-doc-requires : goal.seek-doc-requires
seek-doc-requires g c =
    let es = g.A.DocSet.rest c.loop-doc.first in
    let asked = g.B.DocSet.rest c.loop-doc.other in
    let told = g.B.DocSet.rest c.seek_danger.new.self in
    let h = asked_for es asked told c.loop-doc.doc c.loop-doc.invariant.here c.loop-doc.invariant.sound c.loop-doc-test.true c.seek_danger.ensures.rest c.seek_danger.ensures.sound in
    bound_target es asked told c.loop-doc.doc c.in-SeekLowerBound.bound h (c.in-SeekLowerBound.ensures.answer.0 c.loop-doc-test.true).1

pub loop-doc-smaller : goal.loop-doc-smaller
loop-doc-smaller g c =
    let es = g.A.DocSet.rest c.loop-doc.first in
    let asked = g.B.DocSet.rest c.loop-doc.other in
    let told = g.B.DocSet.rest c.seek_danger.new.self in
    let h = asked_for es asked told c.loop-doc.doc c.loop-doc.invariant.here c.loop-doc.invariant.sound c.loop-doc-test.true c.seek_danger.ensures.rest c.seek_danger.ensures.sound in
    let bound = c.in-SeekLowerBound.ensures.answer.0 c.loop-doc-test.true in
    bound_above es asked told _ c.loop-doc.doc c.in-SeekLowerBound.bound c.seek-doc.result h bound.1 bound.0 c.seek-doc.ensures.rest c.seek-doc.ensures.doc

pub loop-doc-preserved : goal.loop-doc-preserved
loop-doc-preserved g c =
    let es = g.A.DocSet.rest c.loop-doc.first in
    let asked = g.B.DocSet.rest c.loop-doc.other in
    let told = g.B.DocSet.rest c.seek_danger.new.self in
    let h = asked_for es asked told c.loop-doc.doc c.loop-doc.invariant.here c.loop-doc.invariant.sound c.loop-doc-test.true c.seek_danger.ensures.rest c.seek_danger.ensures.sound in
    let bound = c.in-SeekLowerBound.ensures.answer.0 c.loop-doc-test.true in
    record {
      here = c.seek-doc.ensures.doc;
      sound = c.seek-doc.ensures.sound;
      met = bound_more [] _ es _ asked told c.loop-doc.doc c.in-SeekLowerBound.bound h bound.1 c.seek-doc.ensures.rest c.loop-doc.invariant.met;
      first_work = g.met.A.DocSet.went_on _ _ _ c.loop-doc.invariant.first_work c.seek-doc.ensures.work;
      other_work = g.met.B.DocSet.went_on _ _ _ c.loop-doc.invariant.other_work c.seek_danger.ensures.work;
    }

pub returns-clause-at : goal.returns-clause-at
returns-clause-at g c =
    let none = at_end (g.A.DocSet.rest c.loop-doc.first) c.loop-doc.doc c.loop-doc.invariant.here c.loop-doc.invariant.sound c.loop-doc-test.false in
    record { sound = c.loop-doc.invariant.sound; here = rw (none) refl }

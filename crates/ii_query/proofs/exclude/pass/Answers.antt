use Rattle.std.proofs.Common.{◌≡◌, drop, refl, ◌∙◌}
use Rattle.ii_docset.proofs.IntersectionLemmas.{asked_for, at_end}
use Rattle.ii_query.specs.Combined.{without}
use Rattle.ii_query.proofs.PickedLemmas.{without_asked, without_at, without_found}
use Rattle.ii_query.proofs.exclude.pass.Goals as goal

pub returns-in-SeekLowerBound-clause-at : goal.returns-in-SeekLowerBound-clause-at
returns-in-SeekLowerBound-clause-at g c =
    let es = g.A.DocSet.rest c.loop-doc.first in
    let asked = g.B.DocSet.rest c.loop-doc.other in
    let told = g.B.DocSet.rest c.seek_danger.new.self in
    let h = asked_for es asked told c.loop-doc.doc c.loop-doc.invariant.here c.loop-doc.invariant.sound c.loop-doc-test.true c.seek_danger.ensures.rest c.seek_danger.ensures.sound in
    let bound = c.in-SeekLowerBound.ensures.answer.0 c.loop-doc-test.true in
    record { sound = c.loop-doc.invariant.sound; here = without_at es asked told c.loop-doc.doc _ h bound.1 bound.0 }

pub returns-in-SeekLowerBound-clause-rest : goal.returns-in-SeekLowerBound-clause-rest
returns-in-SeekLowerBound-clause-rest g c =
    let es = g.A.DocSet.rest c.loop-doc.first in
    let asked = g.B.DocSet.rest c.loop-doc.other in
    let told = g.B.DocSet.rest c.seek_danger.new.self in
    let h = asked_for es asked told c.loop-doc.doc c.loop-doc.invariant.here c.loop-doc.invariant.sound c.loop-doc-test.true c.seek_danger.ensures.rest c.seek_danger.ensures.sound in
    without_asked es asked told c.loop-doc.doc h ∙ c.loop-doc.invariant.met

pub loop-doc-preserved : goal.loop-doc-preserved
loop-doc-preserved g c =
    let es = g.A.DocSet.rest c.loop-doc.first in
    let asked = g.B.DocSet.rest c.loop-doc.other in
    let told = g.B.DocSet.rest c.seek_danger.new.self in
    let h = asked_for es asked told c.loop-doc.doc c.loop-doc.invariant.here c.loop-doc.invariant.sound c.loop-doc-test.true c.seek_danger.ensures.rest c.seek_danger.ensures.sound in
    let here = c.loop-doc.invariant.here in
    let passed : without (drop 1 es) told ≡ without es told = without_found es told (rw (← here) c.loop-doc-test.true) (c.in-Found.ensures.answer.1 ∙ here) in
    record {
      here = c.advance-doc.ensures.doc;
      sound = c.advance-doc.ensures.sound;
      met = rw (c.advance-doc.ensures.rest) (passed ∙ without_asked es asked told c.loop-doc.doc h ∙ c.loop-doc.invariant.met);
      first_work = g.met.A.DocSet.went_on _ _ _ c.loop-doc.invariant.first_work c.advance-doc.ensures.work;
      other_work = g.met.B.DocSet.went_on _ _ _ c.loop-doc.invariant.other_work c.seek_danger.ensures.work;
    }

pub returns-clause-at : goal.returns-clause-at
returns-clause-at g c =
    let none = at_end (g.A.DocSet.rest c.loop-doc.first) c.loop-doc.doc c.loop-doc.invariant.here c.loop-doc.invariant.sound c.loop-doc-test.false in
    record { sound = c.loop-doc.invariant.sound; here = rw (none) refl }

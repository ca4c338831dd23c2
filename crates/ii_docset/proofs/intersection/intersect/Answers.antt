use Rattle.std.proofs.Common.{◌∙◌, refl}
use Rattle.ii_docset.proofs.IntersectionLemmas.{asked_for, at_end, found_more, bound_more, bound_target, bound_above, met_all}
use Rattle.ii_docset.proofs.intersection.intersect.Goals as goal

pub loop-doc-preserved-in-Found : goal.loop-doc-preserved-in-Found
loop-doc-preserved-in-Found g c =
    let es = g.A.DocSet.rest c.loop-doc.first in
    let asked = g.B.DocSet.rest c.loop-doc.other in
    let told = g.B.DocSet.rest c.seek_danger.new.self in
    let h = asked_for es asked told c.loop-doc.doc c.loop-doc.invariant.here c.loop-doc.invariant.sound c.loop-doc-test.true c.seek_danger.ensures.rest c.seek_danger.ensures.sound in
    record {
      here = c.advance-doc.ensures.doc;
      sound = c.advance-doc.ensures.sound;
      met = found_more c.loop-doc.docs.items c.push.new.self.items _ es _ asked told c.loop-doc.doc h c.in-Found.ensures.answer.1 c.in_ok-push-in-Found.ensures.items c.advance-doc.ensures.rest c.loop-doc.invariant.met;
      first_kind = c.advance-doc.ensures.kind ∙ c.loop-doc.invariant.first_kind;
      other_kind = c.seek_danger.ensures.kind ∙ c.loop-doc.invariant.other_kind;
      first_work = g.met.A.DocSet.went_on _ _ _ c.loop-doc.invariant.first_work c.advance-doc.ensures.work;
      other_work = g.met.B.DocSet.went_on _ _ _ c.loop-doc.invariant.other_work c.seek_danger.ensures.work;
    }

pub seek-doc-requires : goal.seek-doc-requires
seek-doc-requires g c =
    let es = g.A.DocSet.rest c.loop-doc.first in
    let asked = g.B.DocSet.rest c.loop-doc.other in
    let told = g.B.DocSet.rest c.seek_danger.new.self in
    let h = asked_for es asked told c.loop-doc.doc c.loop-doc.invariant.here c.loop-doc.invariant.sound c.loop-doc-test.true c.seek_danger.ensures.rest c.seek_danger.ensures.sound in
    bound_target es asked told c.loop-doc.doc c.in-SeekLowerBound.bound h (c.in-SeekLowerBound.ensures.answer.0 c.loop-doc-test.true).1

pub loop-doc-smaller : goal.loop-doc-smaller
loop-doc-smaller g c =
    let es = g.A.DocSet.rest c.loop-doc.first in
    let asked = g.B.DocSet.rest c.loop-doc.other in
    let told = g.B.DocSet.rest c.seek_danger.new.self in
    let h = asked_for es asked told c.loop-doc.doc c.loop-doc.invariant.here c.loop-doc.invariant.sound c.loop-doc-test.true c.seek_danger.ensures.rest c.seek_danger.ensures.sound in
    let bound = c.in-SeekLowerBound.ensures.answer.0 c.loop-doc-test.true in
    bound_above es asked told _ c.loop-doc.doc c.in-SeekLowerBound.bound c.seek-doc.result h bound.1 bound.0 c.seek-doc.ensures.rest c.seek-doc.ensures.doc

pub loop-doc-preserved : goal.loop-doc-preserved
loop-doc-preserved g c =
    let es = g.A.DocSet.rest c.loop-doc.first in
    let asked = g.B.DocSet.rest c.loop-doc.other in
    let told = g.B.DocSet.rest c.seek_danger.new.self in
    let h = asked_for es asked told c.loop-doc.doc c.loop-doc.invariant.here c.loop-doc.invariant.sound c.loop-doc-test.true c.seek_danger.ensures.rest c.seek_danger.ensures.sound in
    let bound = c.in-SeekLowerBound.ensures.answer.0 c.loop-doc-test.true in
    record {
      here = c.seek-doc.ensures.doc;
      sound = c.seek-doc.ensures.sound;
      met = bound_more c.loop-doc.docs.items _ es _ asked told c.loop-doc.doc c.in-SeekLowerBound.bound h bound.1 c.seek-doc.ensures.rest c.loop-doc.invariant.met;
      first_kind = c.seek-doc.ensures.kind ∙ c.loop-doc.invariant.first_kind;
      other_kind = c.seek_danger.ensures.kind ∙ c.loop-doc.invariant.other_kind;
      first_work = g.met.A.DocSet.went_on _ _ _ c.loop-doc.invariant.first_work c.seek-doc.ensures.work;
      other_work = g.met.B.DocSet.went_on _ _ _ c.loop-doc.invariant.other_work c.seek_danger.ensures.work;
    }

pub returns-clause-ok : goal.returns-clause-ok
returns-clause-ok g c = met_all _ _ (g.A.DocSet.rest c.loop-doc.first) (g.B.DocSet.rest c.loop-doc.other) _ c.loop-doc.invariant.here c.loop-doc.invariant.sound c.loop-doc-test.false c.loop-doc.invariant.met

pub returns-clause-rest : goal.returns-clause-rest
returns-clause-rest g c = at_end _ _ c.loop-doc.invariant.here c.loop-doc.invariant.sound c.loop-doc-test.false

pub loop-doc-init : goal.loop-doc-init
loop-doc-init g c = record {
  here = c.doc-doc.ensures.doc;
  sound = c.doc-doc.ensures.sound;
  met = rw c.new-docs.ensures.items;
  first_kind = refl;
  other_kind = refl;
  first_work = g.met.A.DocSet.went_nowhere _;
  other_work = g.met.B.DocSet.went_nowhere _;
}

pub returns-in_err-push-in-Found-clause-other_kind : goal.returns-in_err-push-in-Found-clause-other_kind
returns-in_err-push-in-Found-clause-other_kind g c = c.seek_danger.ensures.kind ∙ c.loop-doc.invariant.other_kind

pub returns-in_err-push-in-Found-clause-first_work : goal.returns-in_err-push-in-Found-clause-first_work
returns-in_err-push-in-Found-clause-first_work g c = c.loop-doc.invariant.first_work

pub returns-in_err-push-in-Found-clause-other_work : goal.returns-in_err-push-in-Found-clause-other_work
returns-in_err-push-in-Found-clause-other_work g c = g.met.B.DocSet.went_on _ _ _ c.loop-doc.invariant.other_work c.seek_danger.ensures.work

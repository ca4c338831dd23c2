use Rattle.std.proofs.Common.{◌≡◌, ◌<◌, ◌∙◌, [], sym, refl, arith}
use Rattle.ii_base.specs.declared.doc_id.TheConstants.{TERMINATED}
use Rattle.ii_docset.specs.Cursor.{doc_at}
use Rattle.ii_docset.proofs.CursorLemmas.{doc_below, length_below, length_step, nothing_left}
use Rattle.ii_docset.proofs.docset.DocSet.count_including_deleted.Goals as goal

pub loop-doc-init : goal.loop-doc-init
loop-doc-init g c = record {
  here = c.doc-doc.ensures.doc;
  sound = c.doc-doc.ensures.sound;
  work = g.met.Self.DocSet.went_nowhere _;
  kind = refl;
  counted = omega arith;
  few = length_below _ c.doc-doc.ensures.sound.ascending;
}

pub loop-doc-preserved : goal.loop-doc-preserved
loop-doc-preserved g c =
    let es = g.Self.DocSet.rest c.loop-doc.self in
    let here = c.loop-doc.invariant.here in
    let low : doc_at es < TERMINATED = omega (arith, doc_below es c.loop-doc.invariant.sound.ascending) in
    record {
      here = c.advance-doc.ensures.doc;
      sound = c.advance-doc.ensures.sound;
      work = g.met.Self.DocSet.went_on _ _ _ c.loop-doc.invariant.work c.advance-doc.ensures.work;
      kind = c.advance-doc.ensures.kind ∙ c.loop-doc.invariant.kind;
      counted = rw (c.advance-doc.ensures.rest) (omega (arith, length_step es low, c.loop-doc.invariant.counted));
      few = c.loop-doc.invariant.few;
    }

pub loop-doc-smaller : goal.loop-doc-smaller
loop-doc-smaller g c =
    let es = g.Self.DocSet.rest c.loop-doc.self in
    let here = c.loop-doc.invariant.here in
    let low : doc_at es < TERMINATED = omega (arith, doc_below es c.loop-doc.invariant.sound.ascending) in
    rw (c.advance-doc.ensures.rest) (omega (arith, length_step es low))

pub returns : goal.returns
returns g c =
    let es = g.Self.DocSet.rest c.loop-doc.self in
    let here = c.loop-doc.invariant.here in
    let none : [] ≡ es = nothing_left es c.loop-doc.invariant.sound.ascending (omega arith) in
    record {
      count = omega (arith, rw (sym none) at c.loop-doc.invariant.counted);
      rest = sym none;
      kind = c.loop-doc.invariant.kind;
      work = c.loop-doc.invariant.work;
    }

use Rattle.std.proofs.Common.{◌<◌, ◌≤◌, ◌∙◌, sym, refl, arith}
use Rattle.ii_docset.specs.Cursor.{doc_at}
use Rattle.ii_docset.proofs.CursorLemmas.{from_doc_step, from_doc_here}
use Rattle.ii_docset.proofs.docset.DocSet.seek.Goals as goal

pub loop-doc-init : goal.loop-doc-init
loop-doc-init g c = record {
  here = c.doc-doc.ensures.doc;
  sound = c.doc-doc.ensures.sound;
  work = g.met.Self.DocSet.went_nowhere _;
  kind = refl;
  left = refl;
}

pub loop-doc-preserved : goal.loop-doc-preserved
loop-doc-preserved g c =
    let es = g.Self.DocSet.rest c.loop-doc.self in
    let here = c.loop-doc.invariant.here in
    let below : doc_at es < c.args.target = omega arith in
    record {
      here = c.advance-doc.ensures.doc;
      sound = c.advance-doc.ensures.sound;
      work = g.met.Self.DocSet.went_on _ _ _ c.loop-doc.invariant.work c.advance-doc.ensures.work;
      kind = c.advance-doc.ensures.kind ∙ c.loop-doc.invariant.kind;
      left = rw (c.advance-doc.ensures.rest) (from_doc_step c.args.target es below c.requires.up_to ∙ c.loop-doc.invariant.left);
    }

pub returns-clause-rest : goal.returns-clause-rest
returns-clause-rest g c =
    let es = g.Self.DocSet.rest c.loop-doc.self in
    let here = c.loop-doc.invariant.here in
    let above : c.args.target ≤ doc_at es = omega arith in
    sym (from_doc_here c.args.target es c.loop-doc.invariant.sound.ascending above) ∙ c.loop-doc.invariant.left

use Rattle.std.proofs.Common.{◌≡◌, ◌<◌, ◌∙◌, [], sym, arith, refl}
use Rattle.ii_base.specs.declared.doc_id.TheConstants.{TERMINATED}
use Rattle.ii_docset.specs.Cursor.{doc_at}
use Rattle.ii_docset.proofs.CursorLemmas.{doc_below, length_step, nothing_left}
use Rattle.ii_docset.proofs.AliveLemmas.{counted_more, covered_more, few_alive}
use Rattle.ii_docset.proofs.docset.DocSet.count.Goals as goal

pub loop-doc-init : goal.loop-doc-init
loop-doc-init g c = record {
  here = c.doc-doc.ensures.doc;
  sound = c.doc-doc.ensures.sound;
  covered = c.requires;
  work = g.met.Self.DocSet.went_nowhere _;
  kind = refl;
  counted = omega arith;
  few = few_alive _ _ c.doc-doc.ensures.sound;
}

pub loop-doc-preserved : goal.loop-doc-preserved
loop-doc-preserved g c = record {
  here = c.advance-doc.ensures.doc;
  sound = c.advance-doc.ensures.sound;
  covered = covered_more c.args.alive_bitset.now (g.Self.DocSet.rest c.loop-doc.self) _ c.advance-doc.ensures.rest c.loop-doc.invariant.covered;
  work = g.met.Self.DocSet.went_on _ _ _ c.loop-doc.invariant.work c.advance-doc.ensures.work;
  kind = c.advance-doc.ensures.kind ∙ c.loop-doc.invariant.kind;
  counted = counted_more c.args.alive_bitset.now (g.Self.DocSet.rest c.loop-doc.self) _ c.loop-doc.count c.loop-doc.doc _ _ _ c.loop-doc.invariant.here c.loop-doc-test.true c.is_alive.ensures c.from-count.ensures c.advance-doc.ensures.rest c.loop-doc.invariant.counted;
  few = c.loop-doc.invariant.few;
}

pub loop-doc-smaller : goal.loop-doc-smaller
loop-doc-smaller g c =
    let es = g.Self.DocSet.rest c.loop-doc.self in
    let here = c.loop-doc.invariant.here in
    let low : doc_at es < TERMINATED = omega (arith, doc_below es c.loop-doc.invariant.sound.ascending) in
    rw (c.advance-doc.ensures.rest) (omega (arith, length_step es low))

pub returns : goal.returns
returns g c =
    let es = g.Self.DocSet.rest c.loop-doc.self in
    let here = c.loop-doc.invariant.here in
    let none : [] ≡ es = nothing_left es c.loop-doc.invariant.sound.ascending (omega arith) in
    record {
      count = omega (arith, rw (sym none) at c.loop-doc.invariant.counted);
      rest = sym none;
      kind = c.loop-doc.invariant.kind;
      work = c.loop-doc.invariant.work;
    }

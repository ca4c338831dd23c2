use Rattle.std.proofs.Common.{◌≡◌, ◌<◌, [], sym, arith}
use Rattle.ii_base.specs.declared.doc_id.TheConstants.{TERMINATED}
use Rattle.ii_docset.specs.Cursor.{doc_at}
use Rattle.ii_docset.proofs.CursorLemmas.{doc_below, length_step, nothing_left}
use Rattle.ii_docset.proofs.AliveLemmas.{counted_more, few_alive}
use Rattle.ii_statistics.proofs.doc_freqs.count_living.Goals as goal

pub loop-doc-init : goal.loop-doc-init
loop-doc-init g c = record {
  here = c.doc-doc.ensures.doc;
  sound = c.doc-doc.ensures.sound;
  ascending = c.doc-doc.ensures.sound.ascending;
  counted = omega arith;
  few = few_alive _ _ c.doc-doc.ensures.sound;
}

pub loop-doc-preserved : goal.loop-doc-preserved
loop-doc-preserved g c = record {
  here = c.advance-doc.ensures.doc;
  sound = c.advance-doc.ensures.sound;
  ascending = c.loop-doc.invariant.ascending;
  counted = counted_more c.args.alive.now (g.C.DocSet.rest c.loop-doc.cursor) _ c.loop-doc.count c.loop-doc.doc _ _ _ c.loop-doc.invariant.here c.loop-doc-test.true c.is_living.ensures c.from-count.ensures c.advance-doc.ensures.rest c.loop-doc.invariant.counted;
  few = c.loop-doc.invariant.few;
}

pub loop-doc-smaller : goal.loop-doc-smaller
loop-doc-smaller g c =
    let es = g.C.DocSet.rest c.loop-doc.cursor in
    let here = c.loop-doc.invariant.here in
    let low : doc_at es < TERMINATED = omega (arith, doc_below es c.loop-doc.invariant.sound.ascending) in
    rw (c.advance-doc.ensures.rest) (omega (arith, length_step es low))

pub returns-clause-counted : goal.returns-clause-counted
returns-clause-counted g c =
    let es = g.C.DocSet.rest c.loop-doc.cursor in
    let here = c.loop-doc.invariant.here in
    let none : [] ≡ es = nothing_left es c.loop-doc.invariant.sound.ascending (omega arith) in
    omega (arith, rw (sym none) at c.loop-doc.invariant.counted)

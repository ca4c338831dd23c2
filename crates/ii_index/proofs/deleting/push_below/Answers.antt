use Rattle.std.proofs.Common.{arith}
use Rattle.ii_index.proofs.ReachLemmas.{taking_ended, taking_grows, taking_next}
use Rattle.ii_index.proofs.deleting.push_below.Goals as goal

pub loop-doc-smaller : goal.loop-doc-smaller
loop-doc-smaller g c =
    taking_grows c.args.limit (g.C.DocSet.rest c.args.cursor.now) (g.C.DocSet.rest c.loop-doc.cursor) (g.C.DocSet.rest c.advance-doc.new.self) c.loop-doc.doc c.advance-doc.result c.args.docs.now.items c.loop-doc.docs.items
    (omega (arith, c.loop-doc-test.true, c.min-end.ensures)) c.advance-doc.ensures.rest c.advance-doc.ensures.doc c.loop-doc.invariant

pub loop-doc-preserved : goal.loop-doc-preserved
loop-doc-preserved g c =
    taking_next c.args.limit (g.C.DocSet.rest c.args.cursor.now) (g.C.DocSet.rest c.loop-doc.cursor) (g.C.DocSet.rest c.advance-doc.new.self) c.loop-doc.doc c.advance-doc.result c.args.docs.now.items c.loop-doc.docs.items c.push.new.self.items
    (omega (arith, c.loop-doc-test.true, c.min-end.ensures)) c.in_ok-push.ensures.items c.advance-doc.ensures.rest c.advance-doc.ensures.doc c.advance-doc.ensures.sound c.loop-doc.invariant

pub returns-clause-pushed : goal.returns-clause-pushed
returns-clause-pushed g c =
    taking_ended c.args.limit (g.C.DocSet.rest c.args.cursor.now) (g.C.DocSet.rest c.loop-doc.cursor) c.loop-doc.doc c.args.docs.now.items c.loop-doc.docs.items
    (omega (arith, c.loop-doc-test.false, c.min-end.ensures)) c.loop-doc.invariant

use Rattle.ii_query.proofs.SetLemmas.{added_all, adding_next}
use Rattle.ii_query.proofs.bit_set.BitSet.insert_all.Goals as goal

pub loop-doc-preserved : goal.loop-doc-preserved
loop-doc-preserved g c =
    let rest = g.D.DocSet.rest in
    adding_next c.args.self.now c.loop-doc.self c.insert.new.self (rest c.args.docs.now) (rest c.loop-doc.docs) (rest c.advance-doc.new.self) c.loop-doc.doc c.advance-doc.result
    c.loop-doc.invariant c.loop-doc-test.true c.in_ok-insert.ensures.added c.advance-doc.ensures.rest c.advance-doc.ensures.doc c.advance-doc.ensures.sound

pub returns-clause-added : goal.returns-clause-added
returns-clause-added g c =
    let rest = g.D.DocSet.rest in
    added_all c.args.self.now c.loop-doc.self (rest c.args.docs.now) (rest c.loop-doc.docs) c.loop-doc.doc c.loop-doc.invariant c.loop-doc-test.false

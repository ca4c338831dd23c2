use Rattle.std.proofs.Common.{arith}
use Rattle.nequllpa_searching.proofs.FindingLemmas.{taking_ended, taking_past}
use Rattle.nequllpa_searching.proofs.finding.take_docs.Goals as goal

pub returns-clause-taken : goal.returns-clause-taken
returns-clause-taken g c =
    taking_ended c.args.alive.now c.args.limit (g.C.DocSet.rest c.args.cursor.now) (g.C.DocSet.rest c.loop-doc.cursor) c.loop-doc.doc c.loop-doc.docs.items c.loop-doc-test.false c.loop-doc.invariant

pub returns-then-doc-num_docs-clause-taken : goal.returns-then-doc-num_docs-clause-taken
returns-then-doc-num_docs-clause-taken g c =
    taking_past c.args.alive.now c.args.limit (g.C.DocSet.rest c.args.cursor.now) (g.C.DocSet.rest c.loop-doc.cursor) c.loop-doc.doc c.loop-doc.docs.items (omega (arith, c.if-doc-num_docs.true, c.num_docs.ensures)) c.loop-doc.invariant

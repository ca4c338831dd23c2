use Rattle.ii_query.specs.Combined.{either}
use Rattle.ii_query.proofs.UnionLemmas.{either_next, nothing_next}
use Rattle.ii_query.proofs.union.UnionDocSet.advance.Goals as goal

pub returns-then-doc-ge-TERMINATED-clause-rest : goal.returns-then-doc-ge-TERMINATED-clause-rest
returns-then-doc-ge-TERMINATED-clause-rest g c =
    nothing_next (either (g.A.DocSet.rest c.args.self.now.first) (g.B.DocSet.rest c.args.self.now.other)) c.least-doc.result c.least-doc.ensures.sound c.least-doc.ensures.doc c.if-doc-ge-TERMINATED.true

pub returns-clause-rest : goal.returns-clause-rest
returns-clause-rest g c =
    either_next c.least-doc.result (g.A.DocSet.rest c.args.self.now.first) (g.B.DocSet.rest c.args.self.now.other) (g.A.DocSet.rest c.pass.new.cursor) (g.B.DocSet.rest c.pass-2.new.cursor)
    c.least-doc.ensures.sound c.least-doc.ensures.doc c.if-doc-ge-TERMINATED.false c.pass.ensures.rest c.pass-2.ensures.rest

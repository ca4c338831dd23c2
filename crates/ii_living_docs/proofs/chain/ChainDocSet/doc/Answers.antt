use Rattle.std.proofs.Common.{◌∙◌, arith}
use Rattle.ii_living_docs.proofs.ChainLemmas.{at_place, doc_chained}
use Rattle.ii_living_docs.proofs.chain.ChainDocSet.doc.Goals as goal

pub returns-then-self-len-clause-doc : goal.returns-then-self-len-clause-doc
returns-then-self-len-clause-doc g c =
    let there = at_place c.self.inside.cursors.items c.self.inside.current c.index.result.now (omega (arith, c.if-self-len.true, c.len.ensures)) c.index.ensures in
    rw (← c.self.view_is) (c.doc.ensures.doc ∙ doc_chained g.D.DocSet.rest c.self.inside.cursors.items c.self.inside.current c.index.result.now c.self.invariant.1 there)

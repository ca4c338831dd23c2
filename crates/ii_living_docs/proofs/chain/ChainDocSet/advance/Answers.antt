use Rattle.std.proofs.Common.{◌∙◌, arith, subst, sym}
use Rattle.ii_docset.specs.Cursor.{IsSound}
use Rattle.ii_docset.proofs.CursorLemmas.{IsSound_drop}
use Rattle.ii_living_docs.specs.Chain.{chained}
use Rattle.ii_living_docs.proofs.ChainLemmas.{advanced_chain, at_place}
use Rattle.ii_living_docs.proofs.chain.ChainDocSet.advance.Goals as goal

pub invariant_of-self : goal.invariant_of-self
invariant_of-self g c =
    let cursors = c.self.inside.cursors.items in
    let there = at_place cursors c.self.inside.current c.index_mut.result.now (omega (arith, c.if-self-len.false, c.len.ensures)) c.index_mut.ensures.value in
    let moved = c.next_place-self-inside.ensures.rest ∙ advanced_chain g.D.DocSet.rest cursors c.self.inside.current c.index_mut.result.now c.advance.new.self c.self.invariant.1 there c.advance.ensures.rest in
    (subst IsSound (sym moved) (IsSound_drop 1 (chained g.D.DocSet.rest cursors c.self.inside.current) c.self.invariant.0), c.next_place-self-inside.ensures.at)

pub returns-clause-rest : goal.returns-clause-rest
returns-clause-rest g c =
    let cursors = c.self.inside.cursors.items in
    let there = at_place cursors c.self.inside.current c.index_mut.result.now (omega (arith, c.if-self-len.false, c.len.ensures)) c.index_mut.ensures.value in
    rw (← c.self.view_is)
    (c.next_place-self-inside.ensures.rest ∙ advanced_chain g.D.DocSet.rest cursors c.self.inside.current c.index_mut.result.now c.advance.new.self c.self.invariant.1 there c.advance.ensures.rest)

use Rattle.std.proofs.Common.{◌∙◌, arith, sym}
use Rattle.nequllpa_opening.proofs.IdsLemmas.{not_there}
use Rattle.nequllpa_opening.proofs.ids.first_above_one.Goals as goal

pub loop-doc-preserved : goal.loop-doc-preserved
loop-doc-preserved c =
    not_there c.args.norms.now c.args.alive.now c.loop-doc.doc (omega (arith, c.loop-doc-test.true, c.num_docs-doc-end.ensures)) (sym c.is_long.ensures ∙ c.if-is_long.false) ∙ c.loop-doc.invariant

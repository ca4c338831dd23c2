use Rattle.std.proofs.Common.{ℕ, ap, sym, ◌∙◌, arith}
use Rattle.ii_docset.specs.Cursor.{from_doc}
use Rattle.ii_query.proofs.UnionLemmas.{next_from}
use Rattle.ii_query.proofs.query_cursor.go_above.Goals as goal

pub returns-then-target-doc-clause-rest : goal.returns-then-target-doc-clause-rest
returns-then-target-doc-clause-rest g c =
    let es = g.T.DocSet.rest c.args.cursor.now in
    let above = c.requires.above in
    let up = c.requires.up_to in
    c.advance.ensures.rest ∙ next_from c.args.doc es c.requires.at.sound.ascending c.requires.at.here (omega (arith, above, up)) ∙ ap (λ (target : ℕ). from_doc target es) (sym c.if-target-doc.true)

use Rattle.std.proofs.Common.{◌<◌, ◌∙◌, ℕ, ap, arith, nat_eq, sym}
use Rattle.ii_base.specs.declared.doc_id.TheConstants.{TERMINATED}
use Rattle.ii_docset.proofs.IntersectionLemmas.{has_doc_below}
use Rattle.ii_ranking.proofs.ShareEntryLemmas.{has_doc_above, sought}
use Rattle.ii_ranking.proofs.term_scores.goes_to.Goals as goal
use Rattle.ii_ranking.proofs.term_scores.goes_to.Goals.{then-doc-current-via-then-doc-current, then-doc-current-via-else-doc-current+then-doc-ge-TERMINATED}

pub returns-then-doc-current-clause-found : goal.returns-then-doc-current-clause-found
returns-then-doc-current-clause-found g c =
    let rest = g.D.DocSet.rest c.args.cursor.now in
    let up = c.doc-current.ensures.sound.ascending in
    elim c.then-doc-current.branch [
      | then-doc-current-via-then-doc-current w ↦ let low = w.if-doc-current.true in let first = c.doc-current.ensures.doc in sym (has_doc_below c.args.doc rest up (omega (arith, low, first)))
      | then-doc-current-via-else-doc-current+then-doc-ge-TERMINATED w ↦ sym (has_doc_above c.args.doc rest up w.if-doc-ge-TERMINATED.true)
    ]

pub returns-clause-found : goal.returns-clause-found
returns-clause-found g c =
    let test = c.if-doc-ge-TERMINATED.false in
    let below : c.args.doc < TERMINATED = omega (arith, test) in
    ap (λ (n : ℕ). nat_eq n c.args.doc) c.seek.ensures.doc ∙ sought c.args.doc (g.D.DocSet.rest c.args.cursor.now) (g.D.DocSet.rest c.seek.new.self) c.seek.ensures.sound.ascending c.seek.ensures.rest below

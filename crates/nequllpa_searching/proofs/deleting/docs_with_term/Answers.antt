use Rattle.std.proofs.Common.{◌∙◌, ap, take, ℕ}
use Rattle.nequllpa_searching.proofs.DeletingLemmas.{term_docs}
use Rattle.nequllpa_searching.proofs.FindingLemmas.{living_of}
use Rattle.nequllpa_searching.proofs.deleting.docs_with_term.Goals as goal

pub returns-in-Ok-docs-clause-found : goal.returns-in-Ok-docs-clause-found
returns-in-Ok-docs-clause-found c =
    let alive = c.args.alive.now in
    let es = c.in-Ok.cursor.rest in
    term_docs c.args.index.now alive c.args.term.now es c.in-Ok-docs.docs.items c.in-Ok.ensures.listed c.doc-first.ensures.sound (c.in-Ok-docs.ensures.taken ∙ ap (λ (n : ℕ). take n (living_of alive es)) c.num_docs.ensures)

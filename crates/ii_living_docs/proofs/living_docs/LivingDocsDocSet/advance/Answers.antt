use Rattle.std.proofs.Common.{◌∙◌, ◌<◌, ap, arith, length}
use Rattle.ii_docset.specs.Cursor.{doc_at}
use Rattle.ii_segments.specs.Segments.{living_entries}
use Rattle.ii_living_docs.proofs.LivingLemmas.{doc_end, living_sound, stays, stepped}
use Rattle.ii_living_docs.proofs.living_docs.LivingDocsDocSet.advance.Goals as goal

pub returns-then-doc-num_docs-clause-doc : goal.returns-then-doc-num_docs-clause-doc
returns-then-doc-num_docs-clause-doc g c =
    rw (← c.self.view_is) (doc_end c.self.inside.base c.self.inside.alive.now (g.D.DocSet.rest c.self.inside.inner) c.self.invariant.1 (omega (arith, c.if-doc-num_docs.true, c.doc.ensures.doc, c.num_docs.ensures)))

pub returns-then-doc-num_docs-clause-rest : goal.returns-then-doc-num_docs-clause-rest
returns-then-doc-num_docs-clause-rest g c =
    rw (← c.self.view_is) (stays c.self.inside.base c.self.inside.alive.now (g.D.DocSet.rest c.self.inside.inner) c.self.invariant.1 (omega (arith, c.if-doc-num_docs.true, c.doc.ensures.doc, c.num_docs.ensures)))

pub returns-then-doc-num_docs-clause-sound : goal.returns-then-doc-num_docs-clause-sound
returns-then-doc-num_docs-clause-sound g c = rw (← c.self.view_is) (living_sound c.self.inside.base c.self.inside.alive.now (g.D.DocSet.rest c.self.inside.inner) c.self.invariant.0 c.self.invariant.1.sound)

pub returns-clause-rest : goal.returns-clause-rest
returns-clause-rest g c =
    let base = c.self.inside.base in
    let alive = c.self.inside.alive.now in
    let es = g.D.DocSet.rest c.self.inside.inner in
    let inside : doc_at es < length alive = omega (arith, c.if-doc-num_docs.false, c.doc.ensures.doc, c.num_docs.ensures) in
    rw (← c.self.view_is) (c.pass.ensures.rest base ∙ ap (living_entries base alive) c.advance.ensures.rest ∙ stepped base alive es c.self.invariant.0 c.self.invariant.1 inside)

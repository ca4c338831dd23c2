use Rattle.std.proofs.Common.{◌∙◌, ◌≡◌, ◌-◌, ◌<◌, ap, arith, sym}
use Rattle.ii_base.specs.declared.doc_id.TheConstants.{TERMINATED}
use Rattle.ii_docset.specs.Cursor.{doc_at}
use Rattle.ii_docset.proofs.CursorLemmas.{from_doc_here}
use Rattle.ii_segments.specs.Segments.{living_entries}
use Rattle.ii_living_docs.proofs.LivingLemmas.{base_below, living_sound, sought, sought_after}
use Rattle.ii_living_docs.proofs.living_docs.LivingDocsDocSet.seek.Goals as goal

pub returns-then-doc-target-clause-rest : goal.returns-then-doc-target-clause-rest
returns-then-doc-target-clause-rest g c =
    let living = living_entries c.self.inside.base c.self.inside.alive.now (g.D.DocSet.rest c.self.inside.inner) in
    let sound = living_sound c.self.inside.base c.self.inside.alive.now (g.D.DocSet.rest c.self.inside.inner) c.self.invariant.0 c.self.invariant.1.sound in
    let here : c.doc-doc.result ≡ doc_at living = rw (← c.self.view_is) at c.doc-doc.ensures.doc in
    rw (← c.self.view_is) (sym (from_doc_here c.args.target living sound.ascending (omega (arith, here, c.if-doc-target.true))))

pub overflow_sub-target : goal.overflow_sub-target
overflow_sub-target g c =
    let living = living_entries c.self.inside.base c.self.inside.alive.now (g.D.DocSet.rest c.self.inside.inner) in
    let here : c.doc-doc.result ≡ doc_at living = rw (← c.self.view_is) at c.doc-doc.ensures.doc in
    let current : doc_at living < TERMINATED = omega (arith, here, c.if-doc-target.false, c.requires.up_to) in
    omega (arith, base_below c.self.inside.base c.self.inside.alive.now (g.D.DocSet.rest c.self.inside.inner) c.self.invariant.0 c.self.invariant.1 current, here, c.if-doc-target.false)

pub seek-requires : goal.seek-requires
seek-requires g c =
    let base = c.self.inside.base in
    let alive = c.self.inside.alive.now in
    let es = g.D.DocSet.rest c.self.inside.inner in
    let here : c.doc-doc.result ≡ doc_at (living_entries base alive es) = rw (← c.self.view_is) at c.doc-doc.ensures.doc in
    let current : doc_at (living_entries base alive es) < TERMINATED = omega (arith, here, c.if-doc-target.false, c.requires.up_to) in
    let low = base_below base alive es c.self.invariant.0 c.self.invariant.1 current in
    sought_after base alive c.args.target (c.args.target - base) c.document_of-document.result es c.self.invariant.0 c.self.invariant.1 c.document_of-document.ensures (omega (arith, low, here, c.if-doc-target.false)) (omega (arith, here, c.if-doc-target.false)) c.requires.up_to

pub returns-clause-rest : goal.returns-clause-rest
returns-clause-rest g c =
    let base = c.self.inside.base in
    let alive = c.self.inside.alive.now in
    let es = g.D.DocSet.rest c.self.inside.inner in
    let here : c.doc-doc.result ≡ doc_at (living_entries base alive es) = rw (← c.self.view_is) at c.doc-doc.ensures.doc in
    let current : doc_at (living_entries base alive es) < TERMINATED = omega (arith, here, c.if-doc-target.false, c.requires.up_to) in
    let low = base_below base alive es c.self.invariant.0 c.self.invariant.1 current in
    rw (← c.self.view_is) (c.pass.ensures.rest base ∙ ap (living_entries base alive) c.seek.ensures.rest
    ∙ sought base alive c.args.target (c.args.target - base) c.document_of-document.result es c.document_of-document.ensures (omega (arith, low, here, c.if-doc-target.false)))

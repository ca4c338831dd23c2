use Rattle.std.proofs.Common.{arith}
use Rattle.ii_living_docs.proofs.LivingLemmas.{doc_end, living_sound}
use Rattle.ii_living_docs.proofs.living_docs.LivingDocsDocSet.doc.Goals as goal

pub returns-then-doc-num_docs-clause-sound : goal.returns-then-doc-num_docs-clause-sound
returns-then-doc-num_docs-clause-sound g c = rw (← c.self.view_is) (living_sound c.self.inside.base c.self.inside.alive.now (g.D.DocSet.rest c.self.inside.inner) c.self.invariant.0 c.self.invariant.1.sound)

pub returns-else-doc-num_docs-clause-doc : goal.returns-else-doc-num_docs-clause-doc
returns-else-doc-num_docs-clause-doc g c =
    rw (← c.self.view_is) (doc_end c.self.inside.base c.self.inside.alive.now (g.D.DocSet.rest c.self.inside.inner) c.self.invariant.1 (omega (arith, c.if-doc-num_docs.false, c.doc-doc.ensures.doc, c.num_docs.ensures)))

pub returns-else-doc-num_docs-clause-sound : goal.returns-else-doc-num_docs-clause-sound
returns-else-doc-num_docs-clause-sound g c = rw (← c.self.view_is) (living_sound c.self.inside.base c.self.inside.alive.now (g.D.DocSet.rest c.self.inside.inner) c.self.invariant.0 c.self.invariant.1.sound)

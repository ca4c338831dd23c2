use Rattle.std.proofs.Common.{sym, arith}
use Rattle.ii_docset.proofs.CursorLemmas.{from_doc_here}
use Rattle.ii_docset.proofs.docset.DocSet.seek_danger.Goals as goal
use Rattle.ii_docset.proofs.docset.DocSet.seek_danger.Goals.{then-doc-target, else-doc-target}

pub returns-then-doc-target-2-clause-rest : goal.returns-then-doc-target-2-clause-rest
returns-then-doc-target-2-clause-rest g c = λ low. elim c.if-doc-target.branch [
  | then-doc-target w ↦ rw (w.self-is) (w.seek-doc.ensures.rest)
  | else-doc-target w ↦ rw (w.self-is) (let here = c.doc-doc.ensures.doc in sym (from_doc_here _ _ c.doc-doc.ensures.sound.ascending (omega arith)))
]

pub returns-else-doc-target-2-clause-rest : goal.returns-else-doc-target-2-clause-rest
returns-else-doc-target-2-clause-rest g c = λ low. elim c.if-doc-target.branch [
  | then-doc-target w ↦ rw (w.self-is) (w.seek-doc.ensures.rest)
  | else-doc-target w ↦ rw (w.self-is) (let here = c.doc-doc.ensures.doc in sym (from_doc_here _ _ c.doc-doc.ensures.sound.ascending (omega arith)))
]

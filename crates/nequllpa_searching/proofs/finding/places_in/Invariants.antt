use Rattle.nequllpa_searching.proofs.FindingLemmas.{IsPlacing}
use Rattle.nequllpa_searching.proofs.finding.places_in.Given as goal

abbrev pub invariant-loop-doc : goal.invariant-loop-doc
invariant-loop-doc g l = IsPlacing (g.C.DocSet.rest l.fn.cursor) l.docs l.doc-index (g.C.DocSet.rest l.cursor) l.places.items

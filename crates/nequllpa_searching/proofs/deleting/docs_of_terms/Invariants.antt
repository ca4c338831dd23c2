use Rattle.nequllpa_searching.proofs.DeletingLemmas.{IsGathering}
use Rattle.nequllpa_searching.proofs.deleting.docs_of_terms.Given as goal

-- the documents of the terms before the index are in front of those of the others
abbrev pub invariant-loop-term : goal.invariant-loop-term
invariant-loop-term l = IsGathering l.segment.index l.segment.alive l.terms l.term-index l.docs.items

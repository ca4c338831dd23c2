use Rattle.ii_docset.proofs.CursorLemmas.{IsSound_drop}
use Rattle.ii_docset_tests.proofs.tests.list_postings.ListPostingsDocSet.advance.Goals as goal

pub invariant_of-self : goal.invariant_of-self
invariant_of-self c = IsSound_drop 1 _ (rw (c.in-Some.ensures.cases.0) at c.self.invariant)

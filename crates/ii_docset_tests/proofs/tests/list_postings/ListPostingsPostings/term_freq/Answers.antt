use Rattle.std.proofs.Common.{arith}
use Rattle.std.proofs.lemmas.List.Elements.{All-head}
use Rattle.ii_docset.specs.Cursor.{FitsU32}
use Rattle.ii_docset_tests.proofs.tests.list_postings.ListPostingsPostings.term_freq.Goals as goal

pub overflow_cast-result : goal.overflow_cast-result
overflow_cast-result c =
    let left = rw (c.in-Some.ensures.cases.0) at c.self.invariant in
    let bound = (All-head FitsU32 _ _ left.fits).0 in
    omega (arith, bound)

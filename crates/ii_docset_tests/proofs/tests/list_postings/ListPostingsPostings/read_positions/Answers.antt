use Rattle.std.proofs.lemmas.List.Elements.{All-head}
use Rattle.ii_docset.specs.Cursor.{FitsU32}
use Rattle.ii_docset_tests.proofs.tests.list_postings.ListPostingsPostings.read_positions.Goals as goal

pub returns-clause-few : goal.returns-clause-few
returns-clause-few c =
    let left = rw (c.in-Some.ensures.cases.0) at c.self.invariant in
    rw (← c.self.view_is, c.in-Some.ensures.cases.0) ((All-head FitsU32 _ _ left.fits).0)

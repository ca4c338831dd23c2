use Rattle.std.proofs.Common.{sym, ◌∙◌}
use Rattle.ii_reader.proofs.WorkedRows.{row_three}
use Rattle.ii_allocation_tests.proofs.walked.three.Goals as goal

pub returns-in-Ok : goal.returns-in-Ok
returns-in-Ok c =
    let opened = rw c.from_static-bytes.ensures at c.in-Ok.ensures.opened.list in
    let same = sym opened ∙ row_three in
    cc

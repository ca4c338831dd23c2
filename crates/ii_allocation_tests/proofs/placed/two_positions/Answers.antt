use Rattle.std.proofs.Common.{sym, ◌∙◌}
use Rattle.ii_layout.proofs.PositionRows.{row_two}
use Rattle.ii_allocation_tests.proofs.placed.two_positions.Goals as goal

pub returns-in-Ok : goal.returns-in-Ok
returns-in-Ok c =
    let opened = rw (c.from_static-postings.ensures, c.from_static.ensures) at c.in-Ok.ensures.opened.list in
    let same = sym opened ∙ row_two in
    cc

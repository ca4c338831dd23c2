use Rattle.ii_io.proofs.CompositeStartLemmas.{closed_bodies}
use Rattle.ii_io.proofs.composite_file.composite_write.CompositeWrite.close.Goals as goal

pub returns-clause-bodies : goal.returns-clause-bodies
returns-clause-bodies g c =
    λ initial bodies has fields.
    let has_inside = rw (← c.self.view_is) at has in
    let writer = rw (c.deref.ensures.value, c.saturating_sub-end.ensures, c.written_bytes.ensures) at c.write_table-written.ensures.written.ok in
    closed_bodies c.write_table-written.result initial _ _ bodies c.self.invariant (rw c.written_bytes.ensures at c.written_bytes.type_inv) has_inside fields writer

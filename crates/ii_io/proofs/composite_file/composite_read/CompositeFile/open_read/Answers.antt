use Rattle.std.proofs.Common.{length, Some, refl, ap}
use Rattle.ii_io.proofs.CompositeReadLemmas.{body_found, body_missing, found_order}
use Rattle.ii_io.proofs.composite_file.composite_read.CompositeFile.open_read.Goals as goal

pub returns-in_default-clause-body : goal.returns-in_default-clause-body
returns-in_default-clause-body c =
    let none = body_missing c.args.field c.self.inside.bytes c.self.inside.places.items (rw c.deref.ensures.value at c.in_default.ensures) in
    rw (← c.self.view_is, none) refl

pub slice-requires-clause-start_le_end : goal.slice-requires-clause-start_le_end
slice-requires-clause-start_le_end c =
    (found_order c.args.field (length c.self.inside.bytes) c.in-Some.place c.self.inside.places.items c.self.invariant (rw c.deref.ensures.value at c.in-Some.ensures)).0

pub slice-requires-clause-in_bounds : goal.slice-requires-clause-in_bounds
slice-requires-clause-in_bounds c =
    (found_order c.args.field (length c.self.inside.bytes) c.in-Some.place c.self.inside.places.items c.self.invariant (rw c.deref.ensures.value at c.in-Some.ensures)).1

pub returns-clause-body : goal.returns-clause-body
returns-clause-body c =
    rw (← c.self.view_is, body_found c.args.field c.self.inside.bytes c.in-Some.place c.self.inside.places.items (rw c.deref.ensures.value at c.in-Some.ensures)) (ap Some c.in_ok-body.ensures.ok)

use Rattle.std.proofs.Common.{length, refl}
use Rattle.ii_io.proofs.CompositeReadLemmas.{body_found, body_missing, found_order, body_size}
use Rattle.ii_io.proofs.composite_file.composite_read.CompositeFile.body_len.Goals as goal

pub returns-in_default : goal.returns-in_default
returns-in_default c =
    let none = body_missing c.args.field c.self.inside.bytes c.self.inside.places.items (rw c.deref.ensures.value at c.in_default.ensures) in
    rw (← c.self.view_is, none) refl

pub overflow_sub-result : goal.overflow_sub-result
overflow_sub-result c =
    (found_order c.args.field (length c.self.inside.bytes) c.in-Some.place c.self.inside.places.items c.self.invariant (rw c.deref.ensures.value at c.in-Some.ensures)).0

pub returns : goal.returns
returns c =
    let found = rw c.deref.ensures.value at c.in-Some.ensures in
    let order = found_order c.args.field (length c.self.inside.bytes) c.in-Some.place c.self.inside.places.items c.self.invariant found in
    rw (← c.self.view_is, body_found c.args.field c.self.inside.bytes c.in-Some.place c.self.inside.places.items found, body_size c.self.inside.bytes c.in-Some.place order) refl

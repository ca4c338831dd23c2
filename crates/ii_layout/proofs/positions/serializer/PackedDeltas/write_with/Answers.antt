use Rattle.std.proofs.Common.{arith}
use Rattle.ii_io.proofs.WriteSteps.{writes_both, writes_refused_by}
use Rattle.ii_layout.proofs.PositionPacking.{writes_packed, refuses_packed, holds_packed}
use Rattle.ii_layout.proofs.positions.serializer.PackedDeltas.write_with.Goals as goal

pub returns-then-is_err-clause-written : goal.returns-then-is_err-clause-written
returns-then-is_err-clause-written g c =
    let widths = c.self.inside.bit_widths.items in
    let body = c.self.inside.positions_buffer.items in
    let old = c.args.positions_write.now in
    let counted = c.write_all-count.new.self in
    let count = rw c.write_u64-end.ensures.written at c.write_all-count.ensures.written in
    let refused = c.if-is_err.ensures.value in
    let r = c.write_all-count.result in
    rw (← c.self.view_is)
    (refuses_packed old counted widths body c.args.rest.now c.len-num_blocks.result r c.self.invariant c.requires (omega arith) refused
    (writes_refused_by old counted _ body r refused (writes_refused_by old counted _ widths r refused count)))

pub returns-then-is_err-2-clause-written : goal.returns-then-is_err-2-clause-written
returns-then-is_err-2-clause-written g c =
    let widths = c.self.inside.bit_widths.items in
    let body = c.self.inside.positions_buffer.items in
    let old = c.args.positions_write.now in
    let counted = c.write_all-count.new.self in
    let after = c.write_all-widths.new.self in
    let count = rw c.write_u64-end.ensures.written at c.write_all-count.ensures.written in
    let refused = c.if-is_err-2.ensures.value in
    let r = c.write_all-widths.result in
    rw (← c.self.view_is)
    (refuses_packed old after widths body c.args.rest.now c.len-num_blocks.result r c.self.invariant c.requires (omega arith) refused
    (writes_refused_by old after _ body r refused (writes_both old counted after _ widths c.write_all-count.result r c.if-is_err.ensures.value count (rw c.deref.ensures.value at c.write_all-widths.ensures.written))))

pub returns-then-is_err-3-clause-written : goal.returns-then-is_err-3-clause-written
returns-then-is_err-3-clause-written g c =
    let widths = c.self.inside.bit_widths.items in
    let body = c.self.inside.positions_buffer.items in
    let old = c.args.positions_write.now in
    let counted = c.write_all-count.new.self in
    let after = c.write_all-widths.new.self in
    let count = rw c.write_u64-end.ensures.written at c.write_all-count.ensures.written in
    let refused = c.if-is_err-3.ensures.value in
    let r = c.write_all-blocks.result in
    let front = writes_both old counted after _ widths c.write_all-count.result c.write_all-widths.result c.if-is_err.ensures.value count (rw c.deref.ensures.value at c.write_all-widths.ensures.written) in
    rw (← c.self.view_is)
    (refuses_packed old c.write_all-blocks.new.self widths body c.args.rest.now c.len-num_blocks.result r c.self.invariant c.requires (omega arith) refused
    (writes_both old after c.write_all-blocks.new.self _ body c.write_all-widths.result r c.if-is_err-2.ensures.value front (rw c.deref-2.ensures.value at c.write_all-blocks.ensures.written)))

pub returns-clause-written : goal.returns-clause-written
returns-clause-written g c =
    let widths = c.self.inside.bit_widths.items in
    let body = c.self.inside.positions_buffer.items in
    let old = c.args.positions_write.now in
    let counted = c.write_all-count.new.self in
    let after = c.write_all-widths.new.self in
    let count = rw c.write_u64-end.ensures.written at c.write_all-count.ensures.written in
    let r = c.write_all-blocks.result in
    let front = writes_both old counted after _ widths c.write_all-count.result c.write_all-widths.result c.if-is_err.ensures.value count (rw c.deref.ensures.value at c.write_all-widths.ensures.written) in
    rw (← c.self.view_is)
    (writes_packed old c.write_all-blocks.new.self c.write_all.new.self widths body c.args.rest.now c.compress_vint_unsorted-bytes.result.now c.len-num_blocks.result r c.write_all.result c.self.invariant c.requires (omega arith) c.if-is_err-3.ensures.value
    (writes_both old after c.write_all-blocks.new.self _ body c.write_all-widths.result r c.if-is_err-2.ensures.value front (rw c.deref-2.ensures.value at c.write_all-blocks.ensures.written))
    c.compress_vint_unsorted-bytes.ensures c.write_all.ensures.written)

pub returns-then-is_err-clause-holds : goal.returns-then-is_err-clause-holds
returns-then-is_err-clause-holds g c =
    rw (← c.self.view_is) (holds_packed _ c.self.inside.bit_widths.items c.self.inside.positions_buffer.items c.args.rest.now c.self.invariant c.requires (λ k. omega (arith, c.type_inv.rest k)) (omega arith))

pub returns-then-is_err-2-clause-holds : goal.returns-then-is_err-2-clause-holds
returns-then-is_err-2-clause-holds g c =
    rw (← c.self.view_is) (holds_packed _ c.self.inside.bit_widths.items c.self.inside.positions_buffer.items c.args.rest.now c.self.invariant c.requires (λ k. omega (arith, c.type_inv.rest k)) (omega arith))

pub returns-then-is_err-3-clause-holds : goal.returns-then-is_err-3-clause-holds
returns-then-is_err-3-clause-holds g c =
    rw (← c.self.view_is) (holds_packed _ c.self.inside.bit_widths.items c.self.inside.positions_buffer.items c.args.rest.now c.self.invariant c.requires (λ k. omega (arith, c.type_inv.rest k)) (omega arith))

pub returns-clause-holds : goal.returns-clause-holds
returns-clause-holds g c =
    rw (← c.self.view_is) (holds_packed _ c.self.inside.bit_widths.items c.self.inside.positions_buffer.items c.args.rest.now c.self.invariant c.requires (λ k. omega (arith, c.type_inv.rest k)) (omega arith))

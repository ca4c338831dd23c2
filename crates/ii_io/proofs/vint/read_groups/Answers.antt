use Rattle.std.proofs.Common.{get_or, arith, refl}
use Rattle.ii_io.proofs.VintLemmas.{group_past, place_past, sum_fits, last_read, low_read, first_read, all_read, full_read}
use Rattle.ii_io.proofs.vint.read_groups.Goals as goal

pub loop-i-init : goal.loop-i-init
loop-i-init c = first_read c.args.most c.args.bytes.now

pub returns-then-i-most-clause-value : goal.returns-then-i-most-clause-value
returns-then-i-most-clause-value c = full_read c.args.most c.args.bytes.now c.loop-i.i c.loop-i.value c.loop-i.place c.loop-i.invariant (omega arith)

pub returns-in_default-clause-value : goal.returns-in_default-clause-value
returns-in_default-clause-value c =
    let byte = get_or c.args.bytes.now c.loop-i.i 0 in
    let past = rw c.from.ensures at c.in_default.ensures in
    group_past c.args.most c.args.bytes.now c.loop-i.i c.loop-i.value c.loop-i.place byte
    (record { known = c.loop-i.invariant; ten = c.requires; left = omega arith; within = c.loop-i-test.true; byte = refl }) past

pub overflow_add-value : goal.overflow_add-value
overflow_add-value c =
    let byte = get_or c.args.bytes.now c.loop-i.i 0 in
    let group = rw c.from.ensures at c.in-Some.ensures in
    let sum = sum_fits c.args.most c.args.bytes.now c.loop-i.i c.loop-i.value c.loop-i.place byte (record { known = c.loop-i.invariant; ten = c.requires; left = omega arith; within = c.loop-i-test.true; byte = refl }) group.0 in
    rw group.1 (omega (arith, sum))

pub returns-then-byte-ge128-clause-value : goal.returns-then-byte-ge128-clause-value
returns-then-byte-ge128-clause-value c =
    let byte = get_or c.args.bytes.now c.loop-i.i 0 in
    let group = rw c.from.ensures at c.in-Some.ensures in
    rw group.1 (last_read c.args.most c.args.bytes.now c.loop-i.i c.loop-i.value c.loop-i.place byte
    (record { known = c.loop-i.invariant; ten = c.requires; left = omega arith; within = c.loop-i-test.true; byte = refl }) c.if-byte-ge128.true group.0)

pub returns-in_default-checked_mul-clause-value : goal.returns-in_default-checked_mul-clause-value
returns-in_default-checked_mul-clause-value c =
    let byte = get_or c.args.bytes.now c.loop-i.i 0 in
    let past = c.in_default-checked_mul.ensures in
    place_past c.args.most c.args.bytes.now c.loop-i.i c.loop-i.value c.loop-i.place byte
    (record { known = c.loop-i.invariant; ten = c.requires; left = omega arith; within = c.loop-i-test.true; byte = refl }) c.if-byte-ge128.false past

pub loop-i-preserved : goal.loop-i-preserved
loop-i-preserved c =
    let byte = get_or c.args.bytes.now c.loop-i.i 0 in
    let group = rw c.from.ensures at c.in-Some.ensures in
    let next = c.in-Some-checked_mul.ensures in
    rw (group.1, next.1) (low_read c.args.most c.args.bytes.now c.loop-i.i c.loop-i.value c.loop-i.place byte
    (record { known = c.loop-i.invariant; ten = c.requires; left = omega arith; within = c.loop-i-test.true; byte = refl }) c.if-byte-ge128.false)

pub returns-clause-value : goal.returns-clause-value
returns-clause-value c = all_read c.args.most c.args.bytes.now c.loop-i.i c.loop-i.value c.loop-i.place c.loop-i.invariant (omega arith)

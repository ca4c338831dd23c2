use Rattle.std.proofs.Common.{◌≡◌, ◌+◌, ◌<◌, ◌≤◌, length, arith}
use Rattle.std.proofs.lemmas.List.{take_rest}
use Rattle.ii_codes.proofs.SortedVintLemmas.{sums-none, sums-past, sums-more, sums-all}
use Rattle.ii_codes.proofs.vint.try_uncompress_sorted.Goals as goal

pub returns-in_default-clause-value : goal.returns-in_default-clause-value
returns-in_default-clause-value c =
    let read = rw take_rest at c.in_default.ensures.value in
    let more : c.loop-value.value-index < length c.loop-value.output = omega arith in
    rw (← c.loop-value.auto.output) (sums-none c.args.offset c.loop-value.last c.args.compressed_data.now c.loop-value.output c.loop-value.value-index c.loop-value.used c.loop-value.invariant more read)

pub returns-in_default-checked_add-clause-value :
    goal.returns-in_default-checked_add-clause-value
returns-in_default-checked_add-clause-value c =
    let read = rw take_rest at c.in-Some.ensures.value in
    let more : c.loop-value.value-index < length c.loop-value.output = omega arith in
    rw (← c.loop-value.auto.output) (sums-past c.args.offset c.loop-value.last c.args.compressed_data.now c.loop-value.output c.loop-value.value-index c.loop-value.used c.in-Some.difference c.in-Some.size
    c.loop-value.invariant more read (omega (arith, c.in_default-checked_add.ensures)))

pub loop-value-preserved : goal.loop-value-preserved
loop-value-preserved c =
    let read = rw take_rest at c.in-Some.ensures.value in
    let within = rw take_rest at c.in-Some.ensures.within in
    let more : c.loop-value.value-index < length c.loop-value.output = omega arith in
    let sum : c.in-Some-checked_add.sum ≡ c.loop-value.last + c.in-Some.difference = omega arith in
    rw sum (sums-more c.args.offset c.loop-value.last c.args.compressed_data.now c.loop-value.output c.loop-value.value-index c.loop-value.used c.in-Some.difference c.in-Some.size
    c.loop-value.invariant more read within (omega arith))

pub returns-clause-value : goal.returns-clause-value
returns-clause-value c =
    let done : length c.loop-value.output ≤ c.loop-value.value-index = omega arith in
    rw (← c.loop-value.auto.output) (sums-all c.args.offset c.loop-value.last c.args.compressed_data.now c.loop-value.output c.loop-value.value-index c.loop-value.used c.loop-value.invariant done)

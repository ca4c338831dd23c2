use Rattle.std.proofs.Common.{◌<◌, ◌≤◌, length, arith}
use Rattle.std.proofs.lemmas.List.{take_rest}
use Rattle.ii_codes.proofs.SortedVintLemmas.{row-first, row-none, row-more, row-all}
use Rattle.ii_codes.proofs.vint.try_uncompress_unsorted.Goals as goal

pub loop-entry-init : goal.loop-entry-init
loop-entry-init c = row-first c.args.compressed_data.now c.args.output.now

pub returns-in_default-clause-value : goal.returns-in_default-clause-value
returns-in_default-clause-value c =
    let read = rw take_rest at c.in_default.ensures.value in
    let more : c.loop-entry.entry-index < length c.loop-entry.output = omega arith in
    rw (← c.loop-entry.auto.output) (row-none c.args.compressed_data.now c.loop-entry.output c.loop-entry.entry-index c.loop-entry.used c.loop-entry.invariant more read)

pub loop-entry-preserved : goal.loop-entry-preserved
loop-entry-preserved c =
    let read = rw take_rest at c.in-Some.ensures.value in
    let within = rw take_rest at c.in-Some.ensures.within in
    let more : c.loop-entry.entry-index < length c.loop-entry.output = omega arith in
    row-more c.args.compressed_data.now c.loop-entry.output c.loop-entry.entry-index c.loop-entry.used c.in-Some.value c.in-Some.size c.loop-entry.invariant more read within

pub returns-clause-value : goal.returns-clause-value
returns-clause-value c =
    let done : length c.loop-entry.output ≤ c.loop-entry.entry-index = omega arith in
    rw (← c.loop-entry.auto.output) (row-all c.args.compressed_data.now c.loop-entry.output c.loop-entry.entry-index c.loop-entry.used c.loop-entry.invariant done)

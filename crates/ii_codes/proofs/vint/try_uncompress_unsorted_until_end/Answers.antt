use Rattle.std.proofs.Common.{◌≡◌, ◌<◌, length, drop, arith, length-drop}
use Rattle.std.proofs.lemmas.List.{take_rest}
use Rattle.ii_codes.proofs.SortedVintLemmas.{on-end, on-more}
use Rattle.ii_codes.proofs.vint.try_uncompress_unsorted_until_end.Goals as goal

pub returns-then-used-compressed_data-clause-value :
    goal.returns-then-used-compressed_data-clause-value
returns-then-used-compressed_data-clause-value c =
    let end : length (drop c.loop-k.used c.args.compressed_data.now) ≡ 0 = omega (arith, length-drop c.loop-k.used c.args.compressed_data.now) in
    rw (← c.loop-k.auto.output) (on-end c.args.compressed_data.now c.loop-k.output c.loop-k.k c.loop-k.used c.loop-k.invariant end)

pub loop-k-preserved : goal.loop-k-preserved
loop-k-preserved c =
    let read = rw take_rest at c.in-Some.ensures.value in
    let within = rw take_rest at c.in-Some.ensures.within in
    let some : 0 < length (drop c.loop-k.used c.args.compressed_data.now) = omega (arith, length-drop c.loop-k.used c.args.compressed_data.now) in
    on-more c.args.compressed_data.now c.loop-k.output c.loop-k.k c.loop-k.used c.in-Some.value c.in-Some.size c.loop-k.invariant (omega arith) some read within

use Rattle.std.proofs.Common.{sym, ◌∙◌, arith}
use Rattle.std.proofs.lemmas.List.{length-take-le}
use Rattle.ii_codes.proofs.bitpacker.BitPacker.write.Goals as goal

pub slice_bounds-bytes-end : goal.slice_bounds-bytes-end
slice_bounds-bytes-end g c = let few = c.push-count.ensures.few in let size = c.push-count.ensures.size in omega arith

pub slice_bounds-write_all-end : goal.slice_bounds-write_all-end
slice_bounds-write_all-end g c =
    let few = c.push-count.ensures.few in
    let size = c.push-count.ensures.size in
    sym (length-take-le c.push-count.result c.push-count.new.whole (omega arith))

pub returns-clause-limit : goal.returns-clause-limit
returns-clause-limit g c =
    let few = c.push-count.ensures.few in
    let size = c.push-count.ensures.size in
    let whole = length-take-le c.push-count.result c.push-count.new.whole (omega arith) in
    rw (← (whole ∙ c.push-count.ensures.count)) c.write_all.ensures.limit

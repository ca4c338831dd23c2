use Rattle.std.proofs.Common.{sym, ◌∙◌, arith}
use Rattle.std.proofs.lemmas.List.{length-take-le}
use Rattle.ii_codes.proofs.bitpacker.BitPacker.flush.Goals as goal

pub slice_bounds-byte-end : goal.slice_bounds-byte-end
slice_bounds-byte-end g c = let few = c.finish-count.ensures.few in let size = c.finish-count.ensures.size in omega arith

pub slice_bounds-write_all-end : goal.slice_bounds-write_all-end
slice_bounds-write_all-end g c =
    let few = c.finish-count.ensures.few in
    let size = c.finish-count.ensures.size in
    sym (length-take-le c.finish-count.result c.finish-count.new.last (omega arith))

pub returns-clause-limit : goal.returns-clause-limit
returns-clause-limit g c =
    let few = c.finish-count.ensures.few in
    let size = c.finish-count.ensures.size in
    let whole = length-take-le c.finish-count.result c.finish-count.new.last (omega arith) in
    rw (← (whole ∙ c.finish-count.ensures.count)) c.write_all.ensures.limit

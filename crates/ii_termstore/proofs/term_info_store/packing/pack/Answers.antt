use Rattle.std.proofs.Common.{◌++◌, arith}
use Rattle.ii_codes.specs.Bits.{low_bits, whole_bytes}
use Rattle.ii_codes.proofs.BitsLemmas.{length-low_bits}
use Rattle.ii_termstore.proofs.PackLemmas.{packs_more, put_after}
use Rattle.ii_termstore.proofs.term_info_store.packing.pack.Goals as goal

pub returns-clause-row : goal.returns-clause-row
returns-clause-row c = λ row h.
    let room = c.requires.room in
    let size = c.push.ensures.size in
    let few = c.push.ensures.few in
    let width = length-low_bits c.args.width c.args.val in
    rw c.push.ensures.left
    (packs_more c.writes_one_row.ensures c.args.buffer.now _ c.args.count c.push.result c.args.packer.now row (low_bits c.args.width c.args.val) h
    (put_after c.args.buffer.now c.push.new.whole _ (whole_bytes (c.args.packer.now ++ low_bits c.args.width c.args.val)) c.args.count c.push.result (omega arith) (omega arith) c.push.ensures.bytes) (rw width c.push.ensures.count))

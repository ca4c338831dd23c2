use Rattle.std.proofs.Common.{arith, refl}
use Rattle.ii_termstore.proofs.PackLemmas.{packing_begins, packs_all, rows_more, rows_all}
use Rattle.ii_termstore.specs.Written.{block_row}
use Rattle.ii_termstore.proofs.term_info_store.packing.pack_block.Goals as goal

pub loop-info-init : goal.loop-info-init
loop-info-init c = record { row = packing_begins c.args.buffer.now c.new-packer.result c.new-packer.ensures; few = omega arith; size = refl }

pub loop-info-preserved : goal.loop-info-preserved
loop-info-preserved c =
    let few = c.loop-info.invariant.few in
    let more = c.pack_term-count.ensures.few in
    let size = c.loop-info.invariant.size in
    let same = c.pack_term-count.ensures.size in
    record {
      row = rw (rows_more c.args.meta.now c.args.others.now c.loop-info.info-index (omega arith)) (c.pack_term-count.ensures.row _ c.loop-info.invariant.row);
      few = omega arith;
      size = omega arith;
    }

pub returns-clause-bytes : goal.returns-clause-bytes
returns-clause-bytes c =
    let all = rw (rows_all c.args.meta.now c.args.others.now c.loop-info.info-index (omega arith)) at c.loop-info.invariant.row in
    let first = c.pack-count.ensures.row _ all in
    let second = c.pack-count-2.ensures.row _ first in
    let whole = rw (c.end_of_postings-postings.ensures, c.end_of_positions-positions.ensures) at second in
    let few = c.loop-info.invariant.few in
    let few_too = c.pack-count.ensures.few in
    let few_all = c.pack-count-2.ensures.few in
    let size = c.loop-info.invariant.size in
    let size_too = c.pack-count.ensures.size in
    let size_all = c.pack-count-2.ensures.size in
    let room = c.requires.room in
    let last = c.finish.ensures.few in
    let last_size = c.finish.ensures.size in
    packs_all c.writes_one_row.ensures c.pack-count-2.new.buffer c.finish.new.last _ c.pack-count-2.result c.finish.result c.pack-count-2.new.packer (block_row c.args.meta.now c.args.others.now) (omega arith) (omega arith) whole
    c.finish.ensures.bytes

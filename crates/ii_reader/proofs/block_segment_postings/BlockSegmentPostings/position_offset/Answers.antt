use Rattle.std.proofs.Common.{◌≡◌, arith}
use Rattle.ii_reader.proofs.PositionLemmas.{held_row, row_size, come_first, come_next, next_low}
use Rattle.ii_reader.proofs.block_segment_postings.BlockSegmentPostings.position_offset.Goals as goal

pub slice_bounds-freq-items-end : goal.slice_bounds-freq-items-end
slice_bounds-freq-items-end c =
    let s = c.self.inside in
    let p = s.checked in
    let i = c.self.invariant in
    let h = held_row p.postings.freqs p.postings.docs c.output_array.result.now p.doc_freq s.skip.block s.freq_decoder i.freqs_held (rw (← c.self.view_is) at c.requires.read) i.has.many i.has.freqs c.output_array.ensures.values in
    row_size p.postings.freqs p.postings.docs c.output_array.result.now s.skip.block c.args.idx h (rw (← c.self.view_is) at c.requires.inside)

pub loop-freq-init : goal.loop-freq-init
loop-freq-init c =
    let s = c.self.inside in
    let p = s.checked in
    let i = c.self.invariant in
    let h = held_row p.postings.freqs p.postings.docs c.output_array.result.now p.doc_freq s.skip.block s.freq_decoder i.freqs_held (rw (← c.self.view_is) at c.requires.read) i.has.many i.has.freqs c.output_array.ensures.values in
    rw (← c.self.view_is) (come_first p s.skip c.output_array.result.now c.position_offset-offset.result c.args.idx i.has i.at h (rw (← c.self.view_is) at c.requires.recorded) (rw (← c.self.view_is) at c.requires.inside) c.position_offset-offset.ensures)

pub overflow_add-offset : goal.overflow_add-offset
overflow_add-offset c =
    let s = c.self.inside in
    let p = s.checked in
    let i = c.self.invariant in
    let h = held_row p.postings.freqs p.postings.docs c.output_array.result.now p.doc_freq s.skip.block s.freq_decoder i.freqs_held (rw (← c.self.view_is) at c.requires.read) i.has.many i.has.freqs c.output_array.ensures.values in
    let low = next_low p.postings.freqs p.postings.docs c.output_array.result.now s.skip.block c.args.idx c.loop-freq.freq-index c.loop-freq.offset c.from-offset.result h i.has.ascending (rw (← c.self.view_is) at c.requires.inside) c.loop-freq-test.true c.from-offset.ensures (rw (← c.self.view_is) at c.loop-freq.invariant) in
    omega arith

pub loop-freq-preserved : goal.loop-freq-preserved
loop-freq-preserved c =
    let s = c.self.inside in
    let p = s.checked in
    let i = c.self.invariant in
    let h = held_row p.postings.freqs p.postings.docs c.output_array.result.now p.doc_freq s.skip.block s.freq_decoder i.freqs_held (rw (← c.self.view_is) at c.requires.read) i.has.many i.has.freqs c.output_array.ensures.values in
    rw (← c.self.view_is) (come_next p.postings.freqs p.postings.docs c.output_array.result.now s.skip.block c.args.idx c.loop-freq.freq-index c.loop-freq.offset c.from-offset.result h (rw (← c.self.view_is) at c.requires.inside) c.loop-freq-test.true c.from-offset.ensures (rw (← c.self.view_is) at c.loop-freq.invariant))

pub returns : goal.returns
returns c =
    let s = c.self.inside in
    let p = s.checked in
    let i = c.self.invariant in
    let h = held_row p.postings.freqs p.postings.docs c.output_array.result.now p.doc_freq s.skip.block s.freq_decoder i.freqs_held (rw (← c.self.view_is) at c.requires.read) i.has.many i.has.freqs c.output_array.ensures.values in
    let whole = row_size p.postings.freqs p.postings.docs c.output_array.result.now s.skip.block c.args.idx h (rw (← c.self.view_is) at c.requires.inside) in
    let over = c.loop-freq-test.false in
    let end : c.loop-freq.freq-index ≡ c.args.idx = omega arith in
    rw (← end) c.loop-freq.invariant

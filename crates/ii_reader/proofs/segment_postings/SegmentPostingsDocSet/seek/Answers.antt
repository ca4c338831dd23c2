use Rattle.std.proofs.Common.{◌<◌, ◌+◌, ◌*◌, ◌/◌, length, nat_lt, drop, refl, sym, arith}
use Rattle.ii_docset.specs.Cursor.{doc_at}
use Rattle.ii_docset.proofs.CursorLemmas.{from_doc_here}
use Rattle.ii_layout.specs.TermList.{list_of}
use Rattle.ii_check.specs.Positions.{deltas_read}
use Rattle.ii_reader.proofs.CursorLemmas.{list_docs, rest_sound}
use Rattle.ii_reader.proofs.PositionLemmas.{are_deltas, fits_on}
use Rattle.ii_reader.proofs.SeekLemmas.{Moved, below_block, rest_near, rest_sought}
use Rattle.ii_reader.proofs.segment_postings.SegmentPostingsDocSet.seek.Goals as goal

pub returns-then-doc-target-clause-rest : goal.returns-then-doc-target-clause-rest
returns-then-doc-target-clause-rest c =
    let here = c.doc-doc.ensures.doc in
    let high = c.if-doc-target.true in
    sym (from_doc_here c.args.target c.args.self.now.rest c.doc-doc.ensures.sound.ascending (omega arith))

pub seek-self-inside-requires : goal.seek-self-inside-requires
seek-self-inside-requires c = c.requires.up_to

pub invariant_of-self-2 : goal.invariant_of-self-2
invariant_of-self-2 c =
    let goes = c.seek-self-inside.ensures.goes in
    let s = c.self.inside in
    let b = s.block_cursor in
    let below = below_block c.args.target b.docs b.block c.seek-self-inside.new.self.block c.seek-self-inside.result (nat_lt c.seek-self-inside.new.self.block (length b.docs / 128)) c.seek-self-inside.ensures.sought refl in
    (below, rw (goes.docs, goes.freqs) c.self.invariant.1, rw (goes.freqs, goes.freq_reading) c.self.invariant.2, c.seek-self-inside.ensures.lazy.within, fits_on b c.seek-self-inside.new.self (deltas_read s.position_reader) goes.recorded goes.requested goes.freqs c.self.invariant.4)

pub returns-clause-rest : goal.returns-clause-rest
returns-clause-rest c =
    let s = c.self.inside in
    let b = s.block_cursor in
    let deltas = deltas_read s.position_reader in
    let goes = c.seek-self-inside.ensures.goes in
    let here = rw (← c.self.view_is) at c.doc-doc.ensures.doc in
    let low = c.if-doc-target.false in
    let es = list_of b.docs b.freqs deltas in
    let current : doc_at (drop (128 * b.block + s.cur) es) < c.args.target = omega arith in
    let place = 128 * c.seek-self-inside.new.self.block + c.seek-self-inside.result in
    let sound = rest_sound (length b.docs) b.docs b.freqs deltas place c.self.invariant.1 (are_deltas b deltas c.self.invariant.4) in
    let moved : Moved c.args.target b.docs es b.block s.cur c.seek-self-inside.new.self.block c.seek-self-inside.result =
    record { are = list_docs (length b.docs) b.docs b.freqs deltas c.self.invariant.1; ascending = sound.ascending; up = c.requires.up_to; within = c.self.invariant.0; current = current; sought = c.seek-self-inside.ensures.sought }
    in
    rw (← c.self.view_is, goes.docs, goes.freqs) (rest_sought c.args.target b.docs es b.block s.cur c.seek-self-inside.new.self.block c.seek-self-inside.result moved)

pub returns-then-next-target-clause-rest : goal.returns-then-next-target-clause-rest
returns-then-next-target-clause-rest c =
    let s = c.self.inside in
    let b = s.block_cursor in
    let es = list_of b.docs b.freqs (deltas_read s.position_reader) in
    let here = rw (← c.self.view_is) at c.doc-doc.ensures.doc in
    let low = c.if-doc-target.false in
    let next = c.doc-next.ensures.doc in
    let high = c.if-next-target.true in
    rw (← c.self.view_is)
    (rest_near c.args.target es b.block s.cur c.min-self-inside.result c.min-self-inside.ensures c.self.invariant.0 (omega arith) c.requires.up_to c.doc-next.ensures.sound.ascending (omega arith))

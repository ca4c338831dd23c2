use Rattle.std.proofs.Common.{◌+◌, ◌*◌, sym, ap, ◌∙◌, arith}
use Rattle.ii_check.specs.CheckedPostings.{is_read}
use Rattle.ii_check.specs.Positions.{deltas_read}
use Rattle.ii_reader.specs.SegmentPostings.{decodes_read}
use Rattle.ii_reader.proofs.BoundLemmas.{rest_sought, rest_unread_few, rest_unread_none, unread_decodes, went_with_freq}
use Rattle.ii_reader.proofs.segment_postings.SegmentPostings.seek_with_freq.Goals as goal

pub returns-then-is_read-clause-rest : goal.returns-then-is_read-clause-rest
returns-then-is_read-clause-rest c =
    let s = c.self.inside in
    let b = s.block_cursor in
    let deltas = deltas_read s.position_reader in
    let looked = c.seek_with_freq-self-inside.ensures in
    let some = c.self.invariant.2 ∙ ap is_read (sym c.freq_reading_option.ensures.option) ∙ sym c.is_read.ensures ∙ c.if-is_read.true in
    rw (← c.self.view_is, looked.looks.docs, looked.looks.freqs) (rest_sought b.freqs deltas c.args.target c.args.least _ (128 * b.block + s.cur) (128 * c.seek_with_freq-self-inside.new.self.block + c.seek_with_freq-self-inside.result) b.docs some c.self.invariant.1 looked.found)

pub returns-then-is_read-clause-work : goal.returns-then-is_read-clause-work
returns-then-is_read-clause-work c =
    let s = c.self.inside in
    rw (← c.self.view_is) (went_with_freq c.args.least s.block_cursor c.seek_with_freq-self-inside.new.self _ _ (decodes_read s.position_reader) s.checked_positions c.seek_with_freq-self-inside.ensures.looks)

pub returns-then-least-le1-clause-rest : goal.returns-then-least-le1-clause-rest
returns-then-least-le1-clause-rest c =
    let s = c.self.inside in
    let b = s.block_cursor in
    let unread = c.self.invariant.2 ∙ ap is_read (sym c.freq_reading_option.ensures.option) ∙ sym c.is_read.ensures ∙ c.if-is_read.false in
    let up = (rw (← c.self.view_is) at c.doc-doc.ensures.sound).ascending in
    c.seek.ensures.rest ∙ (rw (← c.self.view_is) (rest_unread_few b.freqs (deltas_read s.position_reader) c.args.target c.args.least (128 * b.block + s.cur) b.docs unread c.if-least-le1.true up))

pub returns-then-least-le1-clause-decodes : goal.returns-then-least-le1-clause-decodes
returns-then-least-le1-clause-decodes c =
    let s = c.self.inside in
    let unread = ap is_read (sym c.freq_reading_option.ensures.option) ∙ sym c.is_read.ensures ∙ c.if-is_read.false in
    let went = c.seek.ensures.work in
    rw (← c.self.view_is) (unread_decodes c.args.least s.block_cursor.block c.seek.new.self.block s.block_cursor.doc_decodes c.seek.new.self.doc_decodes s.block_cursor.freq_reading s.block_cursor.bounds unread (rw (← c.self.view_is) at went.forward) (rw (← c.self.view_is) at went.doc_decodes))

pub returns-clause-rest : goal.returns-clause-rest
returns-clause-rest c =
    let s = c.self.inside in
    let b = s.block_cursor in
    let unread = c.self.invariant.2 ∙ ap is_read (sym c.freq_reading_option.ensures.option) ∙ sym c.is_read.ensures ∙ c.if-is_read.false in
    let up = (rw (← c.self.view_is) at c.doc-doc.ensures.sound).ascending in
    let over = c.if-least-le1.false in
    c.seek-2.ensures.rest ∙ (rw (← c.self.view_is) (rest_unread_none b.freqs (deltas_read s.position_reader) c.args.target c.args.least (128 * b.block + s.cur) b.docs unread (omega arith) up))

pub returns-clause-decodes : goal.returns-clause-decodes
returns-clause-decodes c =
    let s = c.self.inside in
    let unread = ap is_read (sym c.freq_reading_option.ensures.option) ∙ sym c.is_read.ensures ∙ c.if-is_read.false in
    let went = c.seek-2.ensures.work in
    rw (← c.self.view_is) (unread_decodes c.args.least s.block_cursor.block c.seek-2.new.self.block s.block_cursor.doc_decodes c.seek-2.new.self.doc_decodes s.block_cursor.freq_reading s.block_cursor.bounds unread (rw (← c.self.view_is) at went.forward) (rw (← c.self.view_is) at went.doc_decodes))

pub returns-then-least-le1-clause-freqs : goal.returns-then-least-le1-clause-freqs
returns-then-least-le1-clause-freqs c =
    let s = c.self.inside in
    let unread = ap is_read (sym c.freq_reading_option.ensures.option) ∙ sym c.is_read.ensures ∙ c.if-is_read.false in
    let went = c.seek.ensures.work in
    rw (← c.self.view_is) (unread_decodes c.args.least s.block_cursor.block c.seek.new.self.block s.block_cursor.freq_decodes c.seek.new.self.freq_decodes s.block_cursor.freq_reading s.block_cursor.bounds unread (rw (← c.self.view_is) at went.forward) (rw (← c.self.view_is) at went.freq_decodes))

pub returns-clause-freqs : goal.returns-clause-freqs
returns-clause-freqs c =
    let s = c.self.inside in
    let unread = ap is_read (sym c.freq_reading_option.ensures.option) ∙ sym c.is_read.ensures ∙ c.if-is_read.false in
    let went = c.seek-2.ensures.work in
    rw (← c.self.view_is) (unread_decodes c.args.least s.block_cursor.block c.seek-2.new.self.block s.block_cursor.freq_decodes c.seek-2.new.self.freq_decodes s.block_cursor.freq_reading s.block_cursor.bounds unread (rw (← c.self.view_is) at went.forward) (rw (← c.self.view_is) at went.freq_decodes))

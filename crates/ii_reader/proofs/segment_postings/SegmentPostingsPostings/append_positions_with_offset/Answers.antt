use Rattle.std.proofs.Common.{◌+◌, ◌*◌, not, ap, sym, refl, ◌∙◌, arith, map, drop, Bool, ℕ, append-nil}
use Rattle.ii_docset.specs.Cursor.{term_freq_at}
use Rattle.ii_layout.specs.TermList.{list_of}
use Rattle.ii_check.specs.Positions.{deltas_read}
use Rattle.ii_check.proofs.DecodedBlocksLaws.{later_none}
use Rattle.ii_reader.specs.SegmentPostings.{decodes_read}
use Rattle.ii_reader.proofs.CursorLemmas.{inside, list_docs, freq_at_place, freq_by}
use Rattle.ii_reader.proofs.PositionLemmas.{none_at, asks_inside, cursor_asks, asked_positions, sums_fit, shifted_sums}
use Rattle.ii_reader.proofs.segment_postings.SegmentPostingsPostings.append_positions_with_offset.Goals as goal

pub returns-in_default-clause-ok : goal.returns-in_default-clause-ok
returns-in_default-clause-ok c =
    let s = c.self.inside in
    let b = s.block_cursor in
    let none = none_at b.docs b.freqs (deltas_read s.position_reader) (128 * b.block + s.cur) (ap deltas_read c.in_default.is) in
    rw (← c.self.view_is, ← none) (sym (append-nil c.args.output.now.items))

pub position_offset-start-requires-clause-inside : goal.position_offset-start-requires-clause-inside
position_offset-start-requires-clause-inside c =
    let s = c.self.inside in
    let b = s.block_cursor in
    let deltas = deltas_read s.position_reader in
    inside b.docs (list_of b.docs b.freqs deltas) b.block s.cur (list_docs _ b.docs b.freqs deltas c.self.invariant.1) c.self.invariant.0 (rw (← c.self.view_is) at c.requires.current)

pub freq-count-requires : goal.freq-count-requires
freq-count-requires c = λ some.
    let s = c.self.inside in
    let b = s.block_cursor in
    let deltas = deltas_read s.position_reader in
    inside b.docs (list_of b.docs b.freqs deltas) b.block s.cur (list_docs _ b.docs b.freqs deltas c.self.invariant.1) c.self.invariant.0 (rw (← c.self.view_is) at c.requires.current)

pub append_positions-requires-clause-inside : goal.append_positions-requires-clause-inside
append_positions-requires-clause-inside c =
    let s = c.self.inside in
    let b = s.block_cursor in
    let deltas = deltas_read s.position_reader in
    let here = inside b.docs (list_of b.docs b.freqs deltas) b.block s.cur (list_docs _ b.docs b.freqs deltas c.self.invariant.1) c.self.invariant.0 (rw (← c.self.view_is) at c.requires.current) in
    let a = cursor_asks b s.position_reader c.in-Some.reader s.cur c.position_offset-start.result c.freq-count.result c.in-Some.is c.self.invariant.4 c.self.invariant.1 here c.position_offset-start.ensures c.freq-count.ensures in
    asks_inside a.counts c.in-Some.reader.deltas (128 * b.block + s.cur) c.position_offset-start.result c.freq-count.result a.asks

pub append_positions-requires-clause-fits : goal.append_positions-requires-clause-fits
append_positions-requires-clause-fits c =
    let s = c.self.inside in
    let b = s.block_cursor in
    let deltas = deltas_read s.position_reader in
    let here = inside b.docs (list_of b.docs b.freqs deltas) b.block s.cur (list_docs _ b.docs b.freqs deltas c.self.invariant.1) c.self.invariant.0 (rw (← c.self.view_is) at c.requires.current) in
    let a = cursor_asks b s.position_reader c.in-Some.reader s.cur c.position_offset-start.result c.freq-count.result c.in-Some.is c.self.invariant.4 c.self.invariant.1 here c.position_offset-start.ensures c.freq-count.ensures in
    let asked = asked_positions b s.position_reader c.in-Some.reader s.cur c.position_offset-start.result c.freq-count.result c.in-Some.is a in
    sums_fit c.args.offset _ _ (rw (← c.self.view_is) at c.requires.fits) asked

pub returns-clause-ok : goal.returns-clause-ok
returns-clause-ok c =
    let s = c.self.inside in
    let b = s.block_cursor in
    let deltas = deltas_read s.position_reader in
    let here = inside b.docs (list_of b.docs b.freqs deltas) b.block s.cur (list_docs _ b.docs b.freqs deltas c.self.invariant.1) c.self.invariant.0 (rw (← c.self.view_is) at c.requires.current) in
    let a = cursor_asks b s.position_reader c.in-Some.reader s.cur c.position_offset-start.result c.freq-count.result c.in-Some.is c.self.invariant.4 c.self.invariant.1 here c.position_offset-start.ensures c.freq-count.ensures in
    let asked = asked_positions b s.position_reader c.in-Some.reader s.cur c.position_offset-start.result c.freq-count.result c.in-Some.is a in
    let shifted = ap (map (λ (p : ℕ). p + c.args.offset)) asked ∙ shifted_sums c.args.offset _ in
    rw (← c.self.view_is, shifted) c.append_positions.ensures.ok

pub returns-clause-decodes : goal.returns-clause-decodes
returns-clause-decodes c =
    let s = c.self.inside in
    let b = s.block_cursor in
    let deltas = deltas_read s.position_reader in
    let current = rw (← c.self.view_is) at c.requires.current in
    let here = c.freq-count.ensures ∙ freq_at_place _ b.docs b.freqs deltas b.block s.cur c.self.invariant.1 c.self.invariant.0 (λ some. current) in
    let count = freq_by b.freqs b.block s.cur c.freq-count.result (drop (128 * b.block + s.cur) (list_of b.docs b.freqs deltas)) c.freq-count.ensures here
    ∙ ap (λ (t : Bool). term_freq_at (not t) (drop (128 * b.block + s.cur) (list_of b.docs b.freqs deltas))) c.self.invariant.2 in
    let before = ap decodes_read c.in-Some.is in
    let more = c.append_positions.ensures.decodes in
    rw (← c.self.view_is, ← count) (record { block = refl; doc_blocks = refl; freq_blocks = refl; doc_decodes = refl; freq_decodes = refl; entries_read = refl; position_decodes = omega arith })

pub returns-clause-work : goal.returns-clause-work
returns-clause-work c =
    let s = c.self.inside in
    let b = s.block_cursor in
    let deltas = deltas_read s.position_reader in
    let current = rw (← c.self.view_is) at c.requires.current in
    let here = c.freq-count.ensures ∙ freq_at_place _ b.docs b.freqs deltas b.block s.cur c.self.invariant.1 c.self.invariant.0 (λ some. current) in
    let count = freq_by b.freqs b.block s.cur c.freq-count.result (drop (128 * b.block + s.cur) (list_of b.docs b.freqs deltas)) c.freq-count.ensures here
    ∙ ap (λ (t : Bool). term_freq_at (not t) (drop (128 * b.block + s.cur) (list_of b.docs b.freqs deltas))) c.self.invariant.2 in
    let before = ap decodes_read c.in-Some.is in
    let more = c.append_positions.ensures.decodes in
    rw (← c.self.view_is, ← count) (record { doc_freq = refl; freq_reading = refl; bounds = refl; checked = refl; positions_checked = refl; forward = omega arith; doc_blocks = later_none s.block_cursor.block s.block_cursor.doc_blocks; freq_blocks = later_none s.block_cursor.block s.block_cursor.freq_blocks; doc_decodes = omega arith; freq_decodes = omega arith; position_decodes = omega arith })

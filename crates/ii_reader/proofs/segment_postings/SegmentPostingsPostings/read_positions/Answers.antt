use Rattle.std.proofs.Common.{◌+◌, ◌-◌, ◌*◌, ◌++◌, length, ap, sym, refl, ◌∙◌, arith, drop, take, List, ℕ}
use Rattle.std.specs.Prelude.{min}
use Rattle.ii_docset.specs.Cursor.{position_before, positions_at}
use Rattle.ii_docset.proofs.CursorLemmas.{positions_fit}
use Rattle.ii_layout.specs.TermList.{list_of}
use Rattle.ii_check.specs.Positions.{deltas_read}
use Rattle.ii_check.proofs.DecodedBlocksLaws.{later_none}
use Rattle.ii_reader.specs.SegmentPostings.{decodes_read}
use Rattle.ii_reader.proofs.CursorLemmas.{inside, list_docs}
use Rattle.ii_reader.proofs.PieceLemmas.{none_read, piece_length}
use Rattle.ii_reader.proofs.PositionLemmas.{none_at, asks_inside, asks_low, cursor_asks, asked_positions, sums_fit}
use Rattle.ii_reader.proofs.segment_postings.SegmentPostingsPostings.read_positions.Goals as goal

pub returns-in_default-clause-count : goal.returns-in_default-clause-count
returns-in_default-clause-count c =
    let s = c.self.inside in
    let b = s.block_cursor in
    let deltas = deltas_read s.position_reader in
    let none = none_at b.docs b.freqs deltas (128 * b.block + s.cur) (ap deltas_read c.in_default.is) in
    rw (← c.self.view_is, ← none) (omega arith)

pub returns-in_default-clause-read : goal.returns-in_default-clause-read
returns-in_default-clause-read c =
    let s = c.self.inside in
    let b = s.block_cursor in
    let deltas = deltas_read s.position_reader in
    let none = none_at b.docs b.freqs deltas (128 * b.block + s.cur) (ap deltas_read c.in_default.is) in
    rw (← c.self.view_is) (none_read _ c.args.output.now c.args.from none)

pub returns-in_default-clause-few : goal.returns-in_default-clause-few
returns-in_default-clause-few c =
    let s = c.self.inside in
    let b = s.block_cursor in
    let deltas = deltas_read s.position_reader in
    let none = none_at b.docs b.freqs deltas (128 * b.block + s.cur) (ap deltas_read c.in_default.is) in
    rw (← c.self.view_is, ← none) (omega arith)

pub position_offset-start-requires-clause-inside : goal.position_offset-start-requires-clause-inside
position_offset-start-requires-clause-inside c =
    let s = c.self.inside in
    let b = s.block_cursor in
    let deltas = deltas_read s.position_reader in
    let here = inside b.docs (list_of b.docs b.freqs deltas) b.block s.cur (list_docs _ b.docs b.freqs deltas c.self.invariant.1) c.self.invariant.0 (rw (← c.self.view_is) at c.requires.current) in
    here

pub freq-count-requires : goal.freq-count-requires
freq-count-requires c = λ some.
    let s = c.self.inside in
    let b = s.block_cursor in
    let deltas = deltas_read s.position_reader in
    let here = inside b.docs (list_of b.docs b.freqs deltas) b.block s.cur (list_docs _ b.docs b.freqs deltas c.self.invariant.1) c.self.invariant.0 (rw (← c.self.view_is) at c.requires.current) in
    here

pub read_piece-requires-clause-inside : goal.read_piece-requires-clause-inside
read_piece-requires-clause-inside c =
    let s = c.self.inside in
    let b = s.block_cursor in
    let deltas = deltas_read s.position_reader in
    let here = inside b.docs (list_of b.docs b.freqs deltas) b.block s.cur (list_docs _ b.docs b.freqs deltas c.self.invariant.1) c.self.invariant.0 (rw (← c.self.view_is) at c.requires.current) in
    let a = cursor_asks b s.position_reader c.in-Some.reader s.cur c.position_offset-start.result c.freq-count.result c.in-Some.is c.self.invariant.4 c.self.invariant.1 here c.position_offset-start.ensures c.freq-count.ensures in
    asks_inside a.counts c.in-Some.reader.deltas (128 * b.block + s.cur) c.position_offset-start.result c.freq-count.result a.asks

pub read_piece-requires-clause-low : goal.read_piece-requires-clause-low
read_piece-requires-clause-low c =
    let s = c.self.inside in
    let b = s.block_cursor in
    let deltas = deltas_read s.position_reader in
    let here = inside b.docs (list_of b.docs b.freqs deltas) b.block s.cur (list_docs _ b.docs b.freqs deltas c.self.invariant.1) c.self.invariant.0 (rw (← c.self.view_is) at c.requires.current) in
    let a = cursor_asks b s.position_reader c.in-Some.reader s.cur c.position_offset-start.result c.freq-count.result c.in-Some.is c.self.invariant.4 c.self.invariant.1 here c.position_offset-start.ensures c.freq-count.ensures in
    asks_low b c.in-Some.reader.deltas s.cur c.position_offset-start.result c.freq-count.result a c.self.invariant.1

pub read_piece-requires-clause-fits : goal.read_piece-requires-clause-fits
read_piece-requires-clause-fits c =
    let s = c.self.inside in
    let b = s.block_cursor in
    let deltas = deltas_read s.position_reader in
    let here = inside b.docs (list_of b.docs b.freqs deltas) b.block s.cur (list_docs _ b.docs b.freqs deltas c.self.invariant.1) c.self.invariant.0 (rw (← c.self.view_is) at c.requires.current) in
    let a = cursor_asks b s.position_reader c.in-Some.reader s.cur c.position_offset-start.result c.freq-count.result c.in-Some.is c.self.invariant.4 c.self.invariant.1 here c.position_offset-start.ensures c.freq-count.ensures in
    let asked = asked_positions b s.position_reader c.in-Some.reader s.cur c.position_offset-start.result c.freq-count.result c.in-Some.is a in
    sums_fit 0 _ _ (positions_fit _ (rw (← c.self.view_is) at c.doc-doc.ensures.sound)) asked

pub read_piece-requires-clause-before : goal.read_piece-requires-clause-before
read_piece-requires-clause-before c =
    let s = c.self.inside in
    let b = s.block_cursor in
    let deltas = deltas_read s.position_reader in
    let here = inside b.docs (list_of b.docs b.freqs deltas) b.block s.cur (list_docs _ b.docs b.freqs deltas c.self.invariant.1) c.self.invariant.0 (rw (← c.self.view_is) at c.requires.current) in
    let a = cursor_asks b s.position_reader c.in-Some.reader s.cur c.position_offset-start.result c.freq-count.result c.in-Some.is c.self.invariant.4 c.self.invariant.1 here c.position_offset-start.ensures c.freq-count.ensures in
    let asked = asked_positions b s.position_reader c.in-Some.reader s.cur c.position_offset-start.result c.freq-count.result c.in-Some.is a in
    let told = rw (← c.self.view_is) at c.requires.before in
    told ∙ ap (position_before c.args.from) asked

pub returns-clause-count : goal.returns-clause-count
returns-clause-count c =
    let s = c.self.inside in
    let b = s.block_cursor in
    let deltas = deltas_read s.position_reader in
    let here = inside b.docs (list_of b.docs b.freqs deltas) b.block s.cur (list_docs _ b.docs b.freqs deltas c.self.invariant.1) c.self.invariant.0 (rw (← c.self.view_is) at c.requires.current) in
    let a = cursor_asks b s.position_reader c.in-Some.reader s.cur c.position_offset-start.result c.freq-count.result c.in-Some.is c.self.invariant.4 c.self.invariant.1 here c.position_offset-start.ensures c.freq-count.ensures in
    let asked = asked_positions b s.position_reader c.in-Some.reader s.cur c.position_offset-start.result c.freq-count.result c.in-Some.is a in
    let many = piece_length c.in-Some.reader.deltas c.position_offset-start.result c.freq-count.result (asks_inside a.counts c.in-Some.reader.deltas (128 * b.block + s.cur) c.position_offset-start.result c.freq-count.result a.asks) in
    let size = ap length asked ∙ many in
    rw (← c.self.view_is) (c.read_piece.ensures.count ∙ ap (λ (n : ℕ). min (length c.args.output.now) (n - c.args.from)) (sym size))

pub returns-clause-read : goal.returns-clause-read
returns-clause-read c =
    let s = c.self.inside in
    let b = s.block_cursor in
    let deltas = deltas_read s.position_reader in
    let here = inside b.docs (list_of b.docs b.freqs deltas) b.block s.cur (list_docs _ b.docs b.freqs deltas c.self.invariant.1) c.self.invariant.0 (rw (← c.self.view_is) at c.requires.current) in
    let a = cursor_asks b s.position_reader c.in-Some.reader s.cur c.position_offset-start.result c.freq-count.result c.in-Some.is c.self.invariant.4 c.self.invariant.1 here c.position_offset-start.ensures c.freq-count.ensures in
    let asked = asked_positions b s.position_reader c.in-Some.reader s.cur c.position_offset-start.result c.freq-count.result c.in-Some.is a in
    let many = piece_length c.in-Some.reader.deltas c.position_offset-start.result c.freq-count.result (asks_inside a.counts c.in-Some.reader.deltas (128 * b.block + s.cur) c.position_offset-start.result c.freq-count.result a.asks) in
    let size = ap length asked ∙ many in
    rw (← c.self.view_is) (c.read_piece.ensures.read ∙ ap (λ (ps : List ℕ). take (length c.args.output.now) (drop c.args.from ps) ++ drop (c.freq-count.result - c.args.from) c.args.output.now) (sym asked) ∙ ap (λ (n : ℕ). take (length c.args.output.now) (drop c.args.from (positions_at (drop (128 * b.block + s.cur) (list_of b.docs b.freqs deltas)))) ++ drop (n - c.args.from) c.args.output.now) (sym size))

pub returns-clause-few : goal.returns-clause-few
returns-clause-few c =
    let s = c.self.inside in
    let b = s.block_cursor in
    let deltas = deltas_read s.position_reader in
    let here = inside b.docs (list_of b.docs b.freqs deltas) b.block s.cur (list_docs _ b.docs b.freqs deltas c.self.invariant.1) c.self.invariant.0 (rw (← c.self.view_is) at c.requires.current) in
    let a = cursor_asks b s.position_reader c.in-Some.reader s.cur c.position_offset-start.result c.freq-count.result c.in-Some.is c.self.invariant.4 c.self.invariant.1 here c.position_offset-start.ensures c.freq-count.ensures in
    let asked = asked_positions b s.position_reader c.in-Some.reader s.cur c.position_offset-start.result c.freq-count.result c.in-Some.is a in
    let many = piece_length c.in-Some.reader.deltas c.position_offset-start.result c.freq-count.result (asks_inside a.counts c.in-Some.reader.deltas (128 * b.block + s.cur) c.position_offset-start.result c.freq-count.result a.asks) in
    let size = ap length asked ∙ many in
    let low = c.freq-count.type_inv in
    rw (← c.self.view_is) (omega (arith, size, low))

pub returns-clause-work : goal.returns-clause-work
returns-clause-work c =
    let s = c.self.inside in
    let b = s.block_cursor in
    let deltas = deltas_read s.position_reader in
    let before = ap decodes_read c.in-Some.is in
    let more = c.read_piece.ensures.decodes in
    rw (← c.self.view_is) (record { doc_freq = refl; freq_reading = refl; bounds = refl; checked = refl; positions_checked = refl; forward = omega arith; doc_blocks = later_none s.block_cursor.block s.block_cursor.doc_blocks; freq_blocks = later_none s.block_cursor.block s.block_cursor.freq_blocks; doc_decodes = omega arith; freq_decodes = omega arith; position_decodes = omega arith })

pub returns-clause-decodes : goal.returns-clause-decodes
returns-clause-decodes c =
    let s = c.self.inside in
    let b = s.block_cursor in
    let deltas = deltas_read s.position_reader in
    let before = ap decodes_read c.in-Some.is in
    let more = c.read_piece.ensures.decodes in
    rw (← c.self.view_is) (record { block = refl; doc_blocks = refl; freq_blocks = refl; doc_decodes = refl; freq_decodes = refl; entries_read = refl; position_decodes = omega arith })

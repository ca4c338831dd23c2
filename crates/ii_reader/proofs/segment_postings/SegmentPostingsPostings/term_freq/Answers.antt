use Rattle.std.proofs.Common.{◌≡◌, ◌<◌, true, is_some, ◌+◌, ◌*◌, drop, sym, ◌∙◌, arith}
use Rattle.ii_base.specs.declared.doc_id.TheConstants.{TERMINATED}
use Rattle.ii_docset.specs.Cursor.{doc_at}
use Rattle.ii_layout.specs.TermList.{list_of}
use Rattle.ii_check.specs.Positions.{deltas_read}
use Rattle.ii_reader.proofs.CursorLemmas.{inside, list_docs, freq_at_place, freq_by, current_where}
use Rattle.ii_reader.proofs.PositionLemmas.{few_positions}
use Rattle.ii_reader.proofs.segment_postings.SegmentPostingsPostings.term_freq.Goals as goal

pub freq-requires : goal.freq-requires
freq-requires c = λ some.
    let s = c.self.inside in
    let b = s.block_cursor in
    let deltas = deltas_read s.position_reader in
    let current = current_where _ (rw (← c.self.view_is) at c.requires) (sym c.self.invariant.2 ∙ some) in
    inside b.docs (list_of b.docs b.freqs deltas) b.block s.cur (list_docs _ b.docs b.freqs deltas c.self.invariant.1) c.self.invariant.0 current

pub returns-clause-entry : goal.returns-clause-entry
returns-clause-entry c =
    let s = c.self.inside in
    let b = s.block_cursor in
    let deltas = deltas_read s.position_reader in
    let current : is_some b.freqs ≡ true → doc_at (drop (128 * b.block + s.cur) (list_of b.docs b.freqs deltas)) < TERMINATED = λ some. current_where _ (rw (← c.self.view_is) at c.requires) (sym c.self.invariant.2 ∙ some) in
    rw (← c.self.view_is) (c.freq.ensures ∙ freq_at_place _ b.docs b.freqs deltas b.block s.cur c.self.invariant.1 c.self.invariant.0 current)

pub returns-clause-freq : goal.returns-clause-freq
returns-clause-freq c =
    let s = c.self.inside in
    let b = s.block_cursor in
    let deltas = deltas_read s.position_reader in
    let current : is_some b.freqs ≡ true → doc_at (drop (128 * b.block + s.cur) (list_of b.docs b.freqs deltas)) < TERMINATED = λ some. current_where _ (rw (← c.self.view_is) at c.requires) (sym c.self.invariant.2 ∙ some) in
    let here = c.freq.ensures ∙ freq_at_place _ b.docs b.freqs deltas b.block s.cur c.self.invariant.1 c.self.invariant.0 current in
    rw (← c.self.view_is, ← c.self.invariant.2) (freq_by b.freqs b.block s.cur c.freq.result (drop (128 * b.block + s.cur) (list_of b.docs b.freqs deltas)) c.freq.ensures here)

pub returns-clause-positions : goal.returns-clause-positions
returns-clause-positions c =
    let s = c.self.inside in
    let b = s.block_cursor in
    let deltas = deltas_read s.position_reader in
    let current : is_some b.freqs ≡ true → doc_at (drop (128 * b.block + s.cur) (list_of b.docs b.freqs deltas)) < TERMINATED = λ some. current_where _ (rw (← c.self.view_is) at c.requires) (sym c.self.invariant.2 ∙ some) in
    let here = c.freq.ensures ∙ freq_at_place _ b.docs b.freqs deltas b.block s.cur c.self.invariant.1 c.self.invariant.0 current in
    let few = few_positions b.docs b.freqs deltas (128 * b.block + s.cur) in
    rw (← c.self.view_is) (omega (arith, here, few))

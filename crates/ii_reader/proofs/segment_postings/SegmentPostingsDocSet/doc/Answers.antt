use Rattle.std.proofs.Common.{◌+◌, ◌*◌, ◌∙◌, length}
use Rattle.ii_layout.specs.TermList.{list_of}
use Rattle.ii_check.specs.Positions.{deltas_read}
use Rattle.ii_reader.proofs.CursorLemmas.{doc_at_place, list_docs, rest_sound, stands_at}
use Rattle.ii_reader.proofs.PositionLemmas.{are_deltas}
use Rattle.ii_reader.proofs.segment_postings.SegmentPostingsDocSet.doc.Goals as goal

pub returns-clause-doc : goal.returns-clause-doc
returns-clause-doc c =
    let s = c.self.inside in
    let b = s.block_cursor in
    let deltas = deltas_read s.position_reader in
    rw (← c.self.view_is) (c.doc.ensures.doc ∙ doc_at_place b.docs (list_of b.docs b.freqs deltas) b.block s.cur (list_docs _ b.docs b.freqs deltas c.self.invariant.1) c.self.invariant.0)

pub returns-clause-sound : goal.returns-clause-sound
returns-clause-sound c =
    let s = c.self.inside in
    let b = s.block_cursor in
    let deltas = deltas_read s.position_reader in
    rw (← c.self.view_is) (rest_sound _ b.docs b.freqs deltas (128 * b.block + s.cur) c.self.invariant.1 (are_deltas b deltas c.self.invariant.4))

pub returns-clause-place : goal.returns-clause-place
returns-clause-place c =
    let s = c.self.inside in
    let b = s.block_cursor in
    let stands = stands_at (length b.docs) b.block s.cur b.docs b.freqs (deltas_read s.position_reader) c.self.invariant.1 c.self.invariant.0 in
    rw (← c.self.view_is) (record { here = stands.0; near = stands.1 })

use Rattle.std.proofs.Common.{◌≡◌, arith}
use Rattle.ii_layout.specs.TermList.{list_of}
use Rattle.ii_check.specs.Positions.{deltas_read}
use Rattle.ii_reader.proofs.CursorLemmas.{length-list, list_docs, next_place, next_block}
use Rattle.ii_reader.proofs.segment_postings.SegmentPostingsDocSet.advance.Goals as goal

pub returns-then-self-clause-rest : goal.returns-then-self-clause-rest
returns-then-self-clause-rest c =
    let s = c.self.inside in
    let b = s.block_cursor in
    rw (← c.self.view_is) (next_place (list_of b.docs b.freqs (deltas_read s.position_reader)) b.block s.cur)

pub returns-clause-rest : goal.returns-clause-rest
returns-clause-rest c =
    let s = c.self.inside in
    let b = s.block_cursor in
    let deltas = deltas_read s.position_reader in
    let last : s.cur ≡ 127 = let below = c.self.invariant.0 in omega arith in
    let many = length-list b.docs (list_of b.docs b.freqs deltas) (list_docs _ b.docs b.freqs deltas c.self.invariant.1) in
    let next = next_block (list_of b.docs b.freqs deltas) _ b.block c.advance.new.self.block many c.advance.ensures.goes.block c.self.invariant.3 in
    rw (← c.self.view_is, last, c.advance.ensures.goes.docs, c.advance.ensures.goes.freqs) next

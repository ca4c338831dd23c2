use Rattle.std.proofs.Common.{◌+◌, ◌*◌, arith}
use Rattle.std.proofs.lemmas.List.{length-drop}
use Rattle.ii_layout.specs.TermList.{list_of}
use Rattle.ii_check.specs.Positions.{deltas_read}
use Rattle.ii_reader.proofs.CursorLemmas.{length-list, list_docs}
use Rattle.ii_reader.proofs.segment_postings.SegmentPostingsDocSet.size_hint.Goals as goal

pub returns-clause-enough : goal.returns-clause-enough
returns-clause-enough c =
    let s = c.self.inside in
    let b = s.block_cursor in
    let es = list_of b.docs b.freqs (deltas_read s.position_reader) in
    let many = length-list b.docs es (list_docs _ b.docs b.freqs (deltas_read s.position_reader) c.self.invariant.1) in
    let left = length-drop (128 * b.block + s.cur) es in
    let hint = c.doc_freq.ensures in
    rw (← c.self.view_is) (omega (arith, many, left, hint))

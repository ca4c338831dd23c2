use Rattle.std.proofs.Common.{◌≡◌, ◌≤◌}
use Rattle.ii_check.specs.CheckedPositions.{SpendsTo}
use Rattle.ii_check.specs.CheckedPostings.{IsAtBlock}
use Rattle.ii_check.proofs.PositionLemmas.{SufficesTo}
use Rattle.ii_check.proofs.checked_postings.CheckedPostings.are_positions.Given as goal

abbrev pub invariant-loop-block : goal.invariant-loop-block
invariant-loop-block l = record {
  at : IsAtBlock l.self l.skip;
  block : l.skip.block ≡ l._block;
  same : l.reader.deltas ≡ l.fn.reader.deltas;
  to : SufficesTo l.self.postings.freqs l.skip.block l.end l.fn.reader.deltas;
  spends : SpendsTo l.fn.reader.decodes l.end l.reader;
  docs : l.doc_decoder.decodes ≤ l._block;
  freqs : l.freq_decoder.decodes ≤ l._block;
}

use Rattle.std.proofs.Common.{◌+◌, ◌*◌}
use Rattle.ii_reader.proofs.BoundLemmas.{Unwanted}
use Rattle.ii_reader.proofs.block_segment_postings.BlockSegmentPostings.place_with_freq.Given as goal

abbrev pub invariant-loop-idx : goal.invariant-loop-idx
invariant-loop-idx l = Unwanted l.self.freqs l.target l.least l.self.docs (128 * l.self.block + l.from) (128 * l.self.block + l.idx)

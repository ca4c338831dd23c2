use Rattle.std.proofs.Common.{◌+◌, ◌*◌}
use Rattle.ii_reader.specs.BlockSegmentPostings.{ComeBefore}
use Rattle.ii_reader.proofs.block_segment_postings.BlockSegmentPostings.position_offset.Given as goal

abbrev pub invariant-loop-freq : goal.invariant-loop-freq
invariant-loop-freq l = ComeBefore l.self.freqs (128 * l.self.block + l.freq-index) l.offset

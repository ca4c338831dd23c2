use Rattle.std.proofs.Common.{◌/◌, ◌-◌, length}
use Rattle.ii_reader.proofs.BoundLemmas.{IsLooking}
use Rattle.ii_reader.proofs.block_segment_postings.BlockSegmentPostings.seek_with_freq.Given as goal

abbrev pub invariant-loop-place : goal.invariant-loop-place
invariant-loop-place l = IsLooking l.target l.least l.from l.place l.fn.self l.self

abbrev pub decreases-loop-place : goal.decreases-loop-place
decreases-loop-place l = length l.fn.self.docs / 128 - l.self.block

use Rattle.std.proofs.Common.{◌/◌, ◌-◌}
use Rattle.ii_check.proofs.SeekLemmas.{IsPassing}
use Rattle.ii_check.proofs.checked_postings.CheckedPostings.seek_with_freq.Given as goal

abbrev pub invariant-loop-skip : goal.invariant-loop-skip
invariant-loop-skip l = IsPassing l.target l.least l.self l.fn.skip.block l.skip

abbrev pub decreases-loop-skip : goal.decreases-loop-skip
decreases-loop-skip l = l.self.doc_freq / 128 - l.skip.block

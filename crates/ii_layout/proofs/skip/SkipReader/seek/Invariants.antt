use Rattle.std.proofs.Common.{◌/◌, ◌-◌}
use Rattle.ii_layout.specs.SkipList.{entries_at}
use Rattle.ii_layout.proofs.SkipReaderLemmas.{IsSeeking}
use Rattle.ii_layout.proofs.skip.SkipReader.seek.Given as goal

abbrev pub invariant-loop-moved : goal.invariant-loop-moved
invariant-loop-moved l = IsSeeking l.target l.fn.self l.self (entries_at l.fn.self.skip_info (l.fn.self.doc_freq / 128) l.skip_data) l.moved

abbrev pub decreases-loop-moved : goal.decreases-loop-moved
decreases-loop-moved l = l.fn.self.doc_freq / 128 - l.self.block

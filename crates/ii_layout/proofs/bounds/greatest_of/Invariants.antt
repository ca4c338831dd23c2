use Rattle.std.proofs.Common.{◌≡◌, drop, fold, max}
use Rattle.ii_layout.specs.Bounds.{greatest}
use Rattle.ii_layout.proofs.bounds.greatest_of.Given as goal

abbrev pub invariant-loop-term_freq : goal.invariant-loop-term_freq
invariant-loop-term_freq l = record { left : fold max l.greatest (drop l.term_freq-index l.term_freqs) ≡ greatest l.term_freqs }

use Rattle.std.proofs.Common.{◌≡◌, ◌*◌, ◌≤◌, ◌^◌, take}
use Rattle.std.specs.List.{sum}
use Rattle.ii_layout.proofs.serializer.Block.term_freq_sum.Given as goal

abbrev pub invariant-loop-i : goal.invariant-loop-i
invariant-loop-i l = record { value : l.total ≡ sum (take l.i l.self-inside.term_freqs); fits : l.total ≤ l.i * 2 ^ 32 }

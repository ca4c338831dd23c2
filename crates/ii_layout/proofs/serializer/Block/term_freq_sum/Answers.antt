use Rattle.std.proofs.Common.{ℕ, arith}
use Rattle.std.proofs.lemmas.List.Sums.{sum_by_more}
use Rattle.ii_layout.proofs.serializer.Block.term_freq_sum.Goals as goal

pub loop-i-preserved : goal.loop-i-preserved
loop-i-preserved c =
    let next = sum_by_more (λ (x : ℕ). x) c.self.inside.term_freqs c.loop-i.i 0 (omega arith) in
    record { value = rw next (omega arith); fits = omega arith }

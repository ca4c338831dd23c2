use Rattle.std.proofs.Common.{◌+◌, ◌<◌, ℕ, arith, subst}
use Rattle.ii_bm25.proofs.ScoreLemmas.{searches_above}
use Rattle.ii_bm25.proofs.bm25.least_count.Goals as goal

pub loop-low-preserved-then-score-least : goal.loop-low-preserved-then-score-least
loop-low-preserved-then-score-least c =
    let l = c.loop-low in
    let value = c.score.ensures.value in
    let less = c.if-score-least.true in
    let step = c.min.ensures in
    let test = c.loop-low-test.true in
    searches_above c.args.weight c.args.length c.args.least l.low l.high (l.low + c.min.result) c.requires.some (omega (arith, step, test)) (subst (λ (s : ℕ). s < c.args.least) value less) l.invariant

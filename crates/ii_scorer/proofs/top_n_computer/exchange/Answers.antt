use Rattle.std.proofs.Common.{◌≡◌, ◌∙◌, ℕ, ◌+◌, List, ap, arith, get_or, slice_set, suc}
use Rattle.ii_scorer.specs.TopNComputer.{with_distance}
use Rattle.ii_scorer.proofs.HeapLemmas.{exchanges_all, exchanges_next, first_exchanged}
use Rattle.ii_scorer.proofs.top_n_computer.exchange.Goals as goal

pub loop-document-preserved : goal.loop-document-preserved
loop-document-preserved c =
    let i = c.loop-document.document-index in
    let xs = c.args.scored.now in
    let next : suc i ≡ i + 1 = omega arith in
    ap (slice_set c.loop-document.scored i) c.with_distance.ensures
    ∙ ap (λ (ys : List (ℕ × ℕ)). slice_set ys i (with_distance (get_or ys i (0, 0)))) c.loop-document.invariant
    ∙ exchanges_next i xs (0, 0) c.loop-document-test.true
    ∙ ap (λ (k : ℕ). first_exchanged k xs) next

pub returns : goal.returns
returns c = c.loop-document.invariant ∙ exchanges_all c.loop-document.document-index c.args.scored.now c.loop-document-test.false

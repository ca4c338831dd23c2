use Rattle.std.proofs.Common.{◌<◌, ◌≤◌, ℕ, arith, length, map}
use Rattle.std.specs.BinaryHeap.{heap_items}
use Rattle.std.proofs.lemmas.List.{length-map}
use Rattle.ii_scorer.specs.TopNComputer.{num_reaching, with_distance}
use Rattle.ii_scorer.proofs.HeapLemmas.{all_fit, first_fits}
use Rattle.ii_scorer.proofs.TopNLemmas.{above_least, after_worst, few_above_worst, few_reach, up_to_least, worst_pushed}
use Rattle.ii_scorer.proofs.top_n_computer.TopNComputer.least_score.Goals as goal

pub returns-then-len-self-clause-needed : goal.returns-then-len-self-clause-needed
returns-then-len-self-clause-needed c = rw (← c.self.view_is)
    (λ scored h all score low.
    let items = heap_items c.self.inside.heap in
    let few : length (map with_distance items) < c.self.inside.top_n = omega (arith, length-map items with_distance, c.if-len-self.true, c.len.ensures, c.self.inside.heap.data.ok.0) in
    few_reach scored (record { top_n = c.self.inside.top_n; kept = map with_distance items }) score few h)

pub returns-then-worst-doc-clause-passed : goal.returns-then-worst-doc-clause-passed
returns-then-worst-doc-clause-passed c = rw (← c.self.view_is)
    (λ score later fits from low.
    let items = heap_items c.self.inside.heap in
    let many : c.self.inside.top_n ≤ length (map with_distance items) = omega (arith, length-map items with_distance, c.if-len-self.false, c.len.ensures, c.self.inside.heap.data.ok.0) in
    after_worst (map with_distance items) c.self.inside.top_n c.in_ok-worst.worst (score, later) c.in_ok-worst.ensures many
    (let up = up_to_least c.in_ok-worst.worst.0 score c.checked_add.result fits c.checked_add.ensures low in omega (arith, up, from, c.if-worst-doc.true)))

pub returns-then-worst-doc-clause-needed : goal.returns-then-worst-doc-clause-needed
returns-then-worst-doc-clause-needed c = rw (← c.self.view_is)
    (λ scored h all.
    let items = heap_items c.self.inside.heap in
    let few : length (map with_distance items) ≤ c.self.inside.top_n = omega (arith, length-map items with_distance, c.self.invariant.2) in
    above_least c.in_ok-worst.worst.0 c.checked_add.result c.checked_add.ensures
    (λ (score : ℕ). num_reaching score scored < c.self.inside.top_n)
    (λ score above. few_above_worst scored (map with_distance items) c.self.inside.top_n score c.in_ok-worst.worst c.in_ok-worst.ensures (all_fit items c.self.invariant.0) few above h))

pub returns-else-worst-doc-clause-passed : goal.returns-else-worst-doc-clause-passed
returns-else-worst-doc-clause-passed c = rw (← c.self.view_is)
    (λ score later fits from low.
    let items = heap_items c.self.inside.heap in
    let many : c.self.inside.top_n ≤ length (map with_distance items) = omega (arith, length-map items with_distance, c.if-len-self.false, c.len.ensures, c.self.inside.heap.data.ok.0) in
    let worst_fits = first_fits items c.in_ok-worst.worst c.in_ok-worst.ensures c.self.invariant.0 in
    after_worst (map with_distance items) c.self.inside.top_n c.in_ok-worst.worst (score, later) c.in_ok-worst.ensures many (omega (arith, low, worst_fits.score, worst_fits.doc)))

pub returns-else-worst-doc-clause-needed : goal.returns-else-worst-doc-clause-needed
returns-else-worst-doc-clause-needed c = rw (← c.self.view_is)
    (λ scored h all.
    let items = heap_items c.self.inside.heap in
    let before = worst_pushed (λ (a : ℕ × ℕ). a.1 < c.args.doc) scored (map with_distance items) c.self.inside.top_n c.in_ok-worst.worst c.in_ok-worst.ensures h all in
    absurd (omega (arith, before, c.if-worst-doc.false)))

use Rattle.std.proofs.Common.{◌≡◌, ◌<◌, ◌≤◌, ◌∷◌, ℕ, ap, arith, drop, length, map, subst}
use Rattle.std.specs.BinaryHeap.{heap_items}
use Rattle.std.proofs.lemmas.List.{length-map}
use Rattle.std.specs.List.Sorted.{IsPermutation}
use Rattle.std.proofs.lemmas.List.Elements.{All-cons}
use Rattle.std.proofs.lemmas.List.Sorted.{All-permutation, length_permutation}
use Rattle.ii_scorer.specs.TopDocs.{Fits}
use Rattle.ii_scorer.specs.TopNComputer.{with_distance}
use Rattle.ii_scorer.proofs.HeapLemmas.{added_kept, all_fit, distance_fits, replaced_fit, replaced_kept, replaced_length}
use Rattle.ii_scorer.proofs.TopNLemmas.{adds_one, after_worst, passes_one, replaces_worst}
use Rattle.ii_scorer.proofs.top_n_computer.TopNComputer.push.Goals as goal

pub invariant_of-self-then-len-self : goal.invariant_of-self-then-len-self
invariant_of-self-then-len-self c =
    let a : ℕ × ℕ = (c.args.score, c.args.doc) in
    let items = heap_items c.self.inside.heap in
    let fit : Fits a = record { score = c.ranges.score.fits; doc = c.ranges.doc.fits } in
    let same : IsPermutation (with_distance a ∷ items) (heap_items c.push.new.self) = subst (λ (x : ℕ × ℕ). IsPermutation (x ∷ items) (heap_items c.push.new.self)) c.with_distance.ensures c.in_ok-push.ensures.permutation in
    let long = length_permutation (with_distance a ∷ items) (heap_items c.push.new.self) same in (
      All-permutation Fits (with_distance a ∷ items) (heap_items c.push.new.self) same (All-cons Fits (with_distance a) items (distance_fits a fit) c.self.invariant.0),
      c.in_ok-push.ensures.heap_order c.self.invariant.1,
      omega (arith, long, c.if-len-self.true, c.len.ensures, c.self.inside.heap.data.ok.0),
    )

pub returns-then-len-self-clause-kept : goal.returns-then-len-self-clause-kept
returns-then-len-self-clause-kept c = rw (← c.self.view_is)
    (λ scored h.
    let a : ℕ × ℕ = (c.args.score, c.args.doc) in
    let items = heap_items c.self.inside.heap in
    let fit : Fits a = record { score = c.ranges.score.fits; doc = c.ranges.doc.fits } in
    let same : IsPermutation (with_distance a ∷ items) (heap_items c.push.new.self) = subst (λ (x : ℕ × ℕ). IsPermutation (x ∷ items) (heap_items c.push.new.self)) c.with_distance.ensures c.in_ok-push.ensures.permutation in
    adds_one scored (map with_distance items) (map with_distance (heap_items c.push.new.self)) c.self.inside.top_n a (added_kept items (heap_items c.push.new.self) a fit same) h)

pub returns-in_default-clause-kept : goal.returns-in_default-clause-kept
returns-in_default-clause-kept c = rw (← c.self.view_is)
    (λ scored h.
    let a : ℕ × ℕ = (c.args.score, c.args.doc) in
    let fit : Fits a = record { score = c.ranges.score.fits; doc = c.ranges.doc.fits } in
    let none = ap length c.in_default.ensures in
    let zero_wanted : c.self.inside.top_n ≡ 0 = omega (arith, none, c.if-len-self.false, c.len.ensures, c.self.inside.heap.data.ok.0) in
    passes_one scored (record { top_n = c.self.inside.top_n; kept = map with_distance (heap_items c.self.inside.heap) }) a 0 fit (omega (arith, zero_wanted)) (omega arith) h)

pub returns-then-rank_key-clause-kept : goal.returns-then-rank_key-clause-kept
returns-then-rank_key-clause-kept c = rw (← c.self.view_is)
    (λ scored h.
    let a : ℕ × ℕ = (c.args.score, c.args.doc) in
    let items = heap_items c.self.inside.heap in
    let fit : Fits a = record { score = c.ranges.score.fits; doc = c.ranges.doc.fits } in
    let many : c.self.inside.top_n ≤ length (map with_distance items) = omega (arith, length-map items with_distance, c.if-len-self.false, c.len.ensures, c.self.inside.heap.data.ok.0) in
    let pass = after_worst (map with_distance items) c.self.inside.top_n c.in-Some.worst a c.in-Some.ensures many (omega (arith, c.if-rank_key.true, c.rank_key.ensures, c.rank_key-2.ensures)) in
    passes_one scored (record { top_n = c.self.inside.top_n; kept = map with_distance items }) a pass.key fit pass.wanted pass.above h)

pub invariant_of-self-2 : goal.invariant_of-self-2
invariant_of-self-2 c =
    let a : ℕ × ℕ = (c.args.score, c.args.doc) in
    let items = heap_items c.self.inside.heap in
    let fit : Fits a = record { score = c.ranges.score.fits; doc = c.ranges.doc.fits } in
    let same : IsPermutation (with_distance a ∷ drop 1 items) (heap_items c.replace_worst.new.heap) = subst (λ (x : ℕ × ℕ). IsPermutation (x ∷ drop 1 items) (heap_items c.replace_worst.new.heap)) c.with_distance-2.ensures c.replace_worst.ensures.items in
    let some : 0 < length items = omega (arith, ap length c.in-Some.ensures.first, length-map items with_distance) in (
      replaced_fit items (heap_items c.replace_worst.new.heap) (with_distance a) (distance_fits a fit) c.self.invariant.0 same,
      c.replace_worst.ensures.order,
      omega (arith, replaced_length items (heap_items c.replace_worst.new.heap) (with_distance a) some same, c.self.invariant.2),
    )

pub returns-clause-kept : goal.returns-clause-kept
returns-clause-kept c = rw (← c.self.view_is)
    (λ scored h.
    let a : ℕ × ℕ = (c.args.score, c.args.doc) in
    let items = heap_items c.self.inside.heap in
    let fit : Fits a = record { score = c.ranges.score.fits; doc = c.ranges.doc.fits } in
    let many : c.self.inside.top_n ≤ length (map with_distance items) = omega (arith, length-map items with_distance, c.if-len-self.false, c.len.ensures, c.self.inside.heap.data.ok.0) in
    let same : IsPermutation (with_distance a ∷ drop 1 items) (heap_items c.replace_worst.new.heap) = subst (λ (x : ℕ × ℕ). IsPermutation (x ∷ drop 1 items) (heap_items c.replace_worst.new.heap)) c.with_distance-2.ensures c.replace_worst.ensures.items in
    replaces_worst scored (map with_distance items) (map with_distance (heap_items c.replace_worst.new.heap)) c.self.inside.top_n a c.in-Some.worst c.in-Some.ensures (all_fit items c.self.invariant.0)
    (omega (arith, c.if-rank_key.false, c.rank_key.ensures, c.rank_key-2.ensures)) many (replaced_kept items (heap_items c.replace_worst.new.heap) a c.in-Some.worst c.in-Some.ensures fit same) h)

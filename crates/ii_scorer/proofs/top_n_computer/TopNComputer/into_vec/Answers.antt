use Rattle.std.proofs.Common.{◌≡◌, ◌∙◌, ℕ, List, ap, arith, length, map, rules, subst, sym}
use Rattle.std.proofs.lemmas.List.{length-map}
use Rattle.std.specs.BinaryHeap.{heap_items}
use Rattle.std.specs.List.{All}
use Rattle.ii_scorer.specs.TopDocs.{Fits}
use Rattle.ii_scorer.specs.TopNComputer.{with_distance}
use Rattle.ii_scorer.proofs.HeapLemmas.{all_fit, written_over}
use Rattle.ii_scorer.proofs.top_n_computer.TopNComputer.into_vec.Goals as goal

pub returns-clause-fits : goal.returns-clause-fits
returns-clause-fits c =
    let items = heap_items c.self.inside.heap in
    let kept = c.into_vec-kept.result in
    let same : c.exchange.new.scored ≡ map with_distance kept.items = search rules in
    let from : kept.items ≡ items = search rules in
    let long : length c.exchange.new.scored ≡ kept.len = omega (arith, ap length same, length-map kept.items with_distance, kept.ok.0) in
    subst (λ (xs : List (ℕ × ℕ)). All Fits xs) (sym (written_over kept.len c.exchange.new.scored kept.items long (sym kept.ok.0) ∙ same ∙ ap (map with_distance) from)) (all_fit items c.self.invariant.0)

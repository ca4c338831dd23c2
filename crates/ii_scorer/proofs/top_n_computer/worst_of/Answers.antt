use Rattle.std.proofs.Common.{rules, subst, sym, map}
use Rattle.std.specs.BinaryHeap.{heap_items}
use Rattle.ii_scorer.specs.TopNComputer.{IsWorst, with_distance}
use Rattle.ii_scorer.proofs.HeapLemmas.{worst_first}
use Rattle.ii_scorer.proofs.top_n_computer.worst_of.Goals as goal

pub returns-in-Some : goal.returns-in-Some
returns-in-Some c =
    let items = heap_items c.args.heap.now in
    subst (λ w. IsWorst w (map with_distance items)) (sym c.with_distance.ensures)
    (worst_first c.in-Some.worst.now items (search rules) (search rules) c.requires.fits (c.in-Some.ensures.greatest c.requires.order))

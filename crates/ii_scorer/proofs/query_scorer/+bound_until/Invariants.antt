use Rattle.std.proofs.Common.{◌*◌, ◌+◌, ℕ}
use Rattle.std.specs.List.{AllZip}
use Rattle.ii_scorer.specs.BlockLists.{ReadsOnly}
use Rattle.ii_scorer.specs.Scorers.{KeepsFrom, depth_over, lists_of}
use Rattle.ii_scorer.specs.QueryScorers.{depth_of}
use Rattle.ii_scorer.proofs.RunLemmas.{BoundsFirst}
use Rattle.ii_scorer.proofs.query_scorer.+bound_until.Given as goal

abbrev pub decreases-QueryScorer::bound_until : goal.decreases-QueryScorer::bound_until
decreases-QueryScorer::bound_until g l = 3 * l.self.now.depth + 2

abbrev pub decreases-bound_by : goal.decreases-bound_by
decreases-bound_by g l = 3 * depth_of l.parts.now + 1

abbrev pub decreases-bound_of_all : goal.decreases-bound_of_all
decreases-bound_of_all g l = 3 * depth_over l.parts.now.items

abbrev pub invariant-bound_of_all-loop-place : goal.invariant-bound_of_all-loop-place
invariant-bound_of_all-loop-place g l = record {
  kept : AllZip (KeepsFrom l.target) l.fn.parts.items l.parts.items;
  bounds : BoundsFirst l.place l.target l.most l.end l.fn.parts.items;
  work : ReadsOnly (λ (from : ℕ). ⊥) (lists_of l.fn.parts.items) (lists_of l.parts.items);
}

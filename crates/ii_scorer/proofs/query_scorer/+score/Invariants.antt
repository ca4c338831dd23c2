use Rattle.std.proofs.Common.{◌≡◌, ◌*◌, ◌+◌, ◌≤◌, ℕ, drop, length, max}
use Rattle.std.specs.List.{AllZip, fold}
use Rattle.ii_scorer.specs.BlockLists.{ReadsOnly}
use Rattle.ii_scorer.specs.Combinations.{any_of, both, each_of}
use Rattle.ii_scorer.specs.Scorers.{KeepsFrom, depth_over, lists_of, scores_at}
use Rattle.ii_scorer.specs.QueryScorers.{depth_of}
use Rattle.ii_scorer.proofs.query_scorer.+score.Given as goal

abbrev pub decreases-QueryScorer::score : goal.decreases-QueryScorer::score
decreases-QueryScorer::score g l = 3 * l.self.now.depth + 2

abbrev pub decreases-score_by : goal.decreases-score_by
decreases-score_by g l = 3 * depth_of l.parts.now + 1

abbrev pub decreases-score_of_each : goal.decreases-score_of_each
decreases-score_of_each g l = 3 * depth_over l.parts.now.items

abbrev pub decreases-score_of_any : goal.decreases-score_of_any
decreases-score_of_any g l = 3 * depth_over l.parts.now.items

abbrev pub invariant-score_of_each-loop-place : goal.invariant-score_of_each-loop-place
invariant-score_of_each-loop-place g l = record {
  kept : AllZip (KeepsFrom l.doc) l.fn.parts.items l.parts.items;
  sum : fold both l.sum (scores_at (drop l.place l.fn.parts.items) l.doc) ≡ each_of (scores_at l.fn.parts.items l.doc);
  work : ReadsOnly (λ (from : ℕ). from ≡ l.doc) (lists_of l.fn.parts.items) (lists_of l.parts.items);
}

abbrev pub decreases-score_of_any-loop-place : goal.decreases-score_of_any-loop-place
decreases-score_of_any-loop-place g l = l.place

abbrev pub invariant-score_of_any-loop-place : goal.invariant-score_of_any-loop-place
invariant-score_of_any-loop-place g l = record {
  within : l.place ≤ length l.fn.parts.items;
  kept : AllZip (KeepsFrom l.doc) l.fn.parts.items l.parts.items;
  sum : l.sum ≡ any_of (scores_at (drop l.place l.fn.parts.items) l.doc);
  work : ReadsOnly (λ (from : ℕ). from ≡ l.doc) (lists_of l.fn.parts.items) (lists_of l.parts.items);
}

abbrev pub decreases-score_without : goal.decreases-score_without
decreases-score_without g l = 3 * max l.first.now.value.depth l.other.now.value.depth + 3

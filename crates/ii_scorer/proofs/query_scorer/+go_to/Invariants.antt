use Rattle.std.proofs.Common.{◌≡◌, ◌*◌, ◌+◌, ◌<◌, ℕ}
use Rattle.std.specs.List.{AllZip}
use Rattle.ii_base.specs.declared.doc_id.TheConstants.{TERMINATED}
use Rattle.ii_scorer.specs.BlockLists.{ReadsOnly}
use Rattle.ii_scorer.specs.Scorers.{KeepsFrom, depth_over, lists_of}
use Rattle.ii_scorer.specs.QueryScorers.{depth_of}
use Rattle.ii_scorer.proofs.ScorerLemmas.{PassesParts}
use Rattle.ii_scorer.proofs.query_scorer.+go_to.Given as goal

abbrev pub decreases-QueryScorer::go_to : goal.decreases-QueryScorer::go_to
decreases-QueryScorer::go_to g l = 3 * l.self.now.depth + 2

abbrev pub decreases-next_of : goal.decreases-next_of
decreases-next_of g l = 3 * depth_of l.parts.now + 1

abbrev pub decreases-meet : goal.decreases-meet
decreases-meet g l = 3 * depth_over l.parts.now.items

abbrev pub decreases-next_of_any : goal.decreases-next_of_any
decreases-next_of_any g l = 3 * depth_over l.parts.now.items

abbrev pub invariant-meet-loop-place : goal.invariant-meet-loop-place
invariant-meet-loop-place g l = record {
  kept : AllZip (KeepsFrom l.target) l.fn.parts.items l.parts.items;
  low : 0 < l.place → l.target < TERMINATED;
  work : ReadsOnly (λ (from : ℕ). from ≡ l.target) (lists_of l.fn.parts.items) (lists_of l.parts.items);
}

abbrev pub invariant-next_of_any-loop-place : goal.invariant-next_of_any-loop-place
invariant-next_of_any-loop-place g l = record {
  kept : AllZip (KeepsFrom l.target) l.fn.parts.items l.parts.items;
  passes : PassesParts l.initial.place l.place l.target l.next l.fn.parts.items;
  work : ReadsOnly (λ (from : ℕ). from ≡ l.target) (lists_of l.fn.parts.items) (lists_of l.parts.items);
}

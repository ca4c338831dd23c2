use Rattle.std.proofs.Common.{◌≡◌, ◌*◌, ◌+◌, ◌<◌, ◌++◌, ℕ, drop, map, take}
use Rattle.ii_base.specs.declared.doc_id.TheConstants.{TERMINATED}
use Rattle.ii_scorer.specs.Scorers.{ScorerState, doc_bound, lists_of, scores_at}
use Rattle.ii_prepared_term.specs.PreparedParts.{prepared_parts_depth}
use Rattle.ii_prepared_term.specs.PreparedQueries.{PreparedQueryState, depth_under, lists_under, prepared_query_bound, scores_by}
use Rattle.ii_prepared_term.specs.PreparedScorers.{AreUnread}
use Rattle.ii_prepared_term.proofs.prepared_query.+scorer.Given as goal

abbrev pub decreases-PreparedQuery::scorer : goal.decreases-PreparedQuery::scorer
decreases-PreparedQuery::scorer l = 3 * l.self.now.depth + 2

abbrev pub decreases-scorer_of : goal.decreases-scorer_of
decreases-scorer_of l = 3 * prepared_parts_depth l.parts.now + 1

abbrev pub decreases-scorers_of : goal.decreases-scorers_of
decreases-scorers_of l = 3 * depth_under l.parts.now.items

abbrev pub decreases-scorer_without : goal.decreases-scorer_without
decreases-scorer_without l = 3 * l.other.now.depth + 3

abbrev pub invariant-scorers_of-loop-part : goal.invariant-scorers_of-loop-part
invariant-scorers_of-loop-part l = record {
  scores : (doc : ℕ) → scores_at l.scorers.items doc ++ scores_by (drop l.part-index l.parts.items) doc ≡ scores_by l.parts.items doc;
  bounds : (doc : ℕ) → doc < TERMINATED → map (λ (s : ScorerState). doc_bound s doc) l.scorers.items ++ map (λ (p : PreparedQueryState). prepared_query_bound p doc) (drop l.part-index l.parts.items) ≡ map (λ (p : PreparedQueryState). prepared_query_bound p doc) l.parts.items;
  lists : AreUnread (lists_under (take l.part-index l.parts.items)) (lists_of l.scorers.items);
}

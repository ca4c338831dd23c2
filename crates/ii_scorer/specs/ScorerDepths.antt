-- A scorer over other scorers is deeper than each of them.
use Rattle.std.specs.Prelude.{◌≤◌, ◌+◌, List, [], ◌∷◌, max}
use Rattle.std.proofs.Common.{arith}
use denote.Param.Weighed.{most}
use Rattle.ii_scorer.specs.declared.scorer.Scorer.{Ghosts}
use Rattle.ii_scorer.specs.QueryScorers.{depth_of}
use Rattle.ii_scorer.specs.Scorers.{ScorerState, depth_over}
use Rattle.ii_scorer.specs.declared.query_scorer.ScorerParts.{ScorerParts}
use Rattle.ii_scorer.specs.declared.query_scorer.ScorerParts.TheVariants.{Nothing, One, All, Each, Any, Without}
use Rattle.ii_scorer.specs.declared.query_scorer.QueryScorer.TheDeep.{deep-ScorerParts}

most_depth : (ss : List ScorerState) → most (λ s. s.depth + 1) ss ≤ depth_over ss
most_depth [] = omega arith
most_depth (s ∷ ss) = omega (arith, most_depth ss)

-- each part is less deep
pub part_depth : (T : Type 0) (t : Ghosts T) (p : ScorerParts T) → max (deep-ScorerParts T t p) 0 ≤ depth_of p
part_depth T t Nothing = omega arith
part_depth T t (One scorer) = omega arith
part_depth T t (All limit) = omega arith
part_depth T t (Each parts) = omega (arith, most_depth parts.items)
part_depth T t (Any parts sums) = omega (arith, most_depth parts.items)
part_depth T t (Without first other) = omega arith

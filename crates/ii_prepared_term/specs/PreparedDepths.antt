-- A prepared query over others is deeper than each of them.
use Rattle.std.specs.Prelude.{◌≤◌, ◌+◌, List, [], ◌∷◌, max}
use Rattle.std.proofs.Common.{arith}
use denote.Param.Weighed.{most}
use Rattle.ii_prepared_term.specs.PreparedParts.{prepared_parts_depth}
use Rattle.ii_prepared_term.specs.PreparedQueries.{PreparedQueryState, depth_under}
use Rattle.ii_prepared_term.specs.declared.prepared_query.PreparedParts.{PreparedParts}
use Rattle.ii_prepared_term.specs.declared.prepared_query.PreparedParts.TheVariants.{Nothing, All, Term, Listed, Each, Any, Without}
use Rattle.ii_prepared_term.specs.declared.prepared_query.PreparedQuery.TheDeep.{deep-PreparedParts}

most_depth : (ss : List PreparedQueryState) → most (λ s. s.depth + 1) ss ≤ depth_under ss
most_depth [] = omega arith
most_depth (s ∷ ss) = omega (arith, most_depth ss)

-- each part is less deep
pub part_depth : (p : PreparedParts) → max (deep-PreparedParts p) 0 ≤ prepared_parts_depth p
part_depth Nothing = omega arith
part_depth (All limit) = omega arith
part_depth (Term term) = omega arith
part_depth (Listed list) = omega arith
part_depth (Each parts) = omega (arith, most_depth parts.items)
part_depth (Any parts) = omega (arith, most_depth parts.items)
part_depth (Without first other) = omega arith

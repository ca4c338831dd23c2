-- A cursor over other cursors is deeper than each of them.
use Rattle.std.specs.Prelude.{◌≤◌, ◌+◌, List, [], ◌∷◌, max}
use Rattle.std.proofs.Common.{arith}
use denote.Param.Weighed.{most}
use Rattle.ii_docset.specs.declared.docset.DocSet.{Ghosts}
use Rattle.ii_query.specs.Combined.{QueryCursorState}
use Rattle.ii_query.specs.declared.query_cursor.QueryParts.{QueryParts}
use Rattle.ii_query.specs.declared.query_cursor.QueryParts.TheVariants.{Nothing, One, All, Set, Intersection, Either, Union, Without}
use Rattle.ii_query.specs.declared.query_cursor.QueryCursor.TheDeep.{deep-QueryParts}
use Rattle.ii_query.specs.QueryCursor.{depth_of, depth_over}

most_depth : {T : Type 0} (cs : List (QueryCursorState T)) → most (λ c. c.depth + 1) cs ≤ depth_over cs
most_depth [] = omega arith
most_depth (c ∷ cs) = omega (arith, most_depth cs)

-- each part is less deep
pub part_depth : (T : Type 0) (t : Ghosts T) (p : QueryParts T) → max (deep-QueryParts T t p) 0 ≤ depth_of p
part_depth T t Nothing = omega arith
part_depth T t (One cursor) = omega arith
part_depth T t (All docs) = omega arith
part_depth T t (Set docs) = omega arith
part_depth T t (Intersection leader others) = omega (arith, most_depth others.items)
part_depth T t (Either first other) = omega arith
part_depth T t (Union parts) = omega (arith, most_depth parts.items)
part_depth T t (Without first other) = omega arith

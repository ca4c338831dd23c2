-- The documents of a cursor over other cursors.
use Rattle.std.specs.Prelude.{◌≡◌, ℕ, suc, ◌+◌, ◌-◌, ◌^◌, ◌≤◌, ◌++◌, max, min, List, [], ◌∷◌, get_or, map}
use Rattle.std.specs.List.{AllByRecursion, AllZip, sum_by}
use Rattle.ii_base.specs.Entries.{Entry}
use Rattle.ii_docset.specs.Cursor.{IsSound, from_doc}
use Rattle.ii_docset.specs.Intersection.{has_doc}
use Rattle.ii_query.specs.BitSet.{docs_between}
use Rattle.ii_query.specs.Combined.{QueryCursorState, all_from, either, intersection_of, union_of, without}
use Rattle.ii_query.specs.declared.query_cursor.QueryParts.{QueryParts}
use Rattle.ii_query.specs.declared.query_cursor.QueryParts.TheVariants.{Nothing, One, All, Set, Intersection, Either, Union, Without}

-- the remaining documents of each of some cursors
abbrev pub rests : {T : Type 0} → List (QueryCursorState T) → List (List Entry)
rests cursors = map (λ (c : QueryCursorState _). c.rest) cursors

-- one more than the depth of the deepest of some cursors
abbrev pub depth_over : {T : Type 0} → List (QueryCursorState T) → ℕ
depth_over [] = 0
depth_over (c ∷ cs) = max (suc c.depth) (depth_over cs)

-- the cursors under some cursors
abbrev pub cursors_under : {T : Type 0} → List (QueryCursorState T) → List T
cursors_under [] = []
cursors_under (c ∷ cs) = c.cursors ++ cursors_under cs

-- the sum of the hints of some cursors, or the greatest number of 32 bits if that is less
abbrev pub sum_of_hints : {T : Type 0} → List (QueryCursorState T) → ℕ
sum_of_hints cursors = min (sum_by (λ (c : QueryCursorState _). c.hint) cursors) (2 ^ 32 - 1)

-- No hint is less than that of the cursor at an index.
abbrev pub HasLeastHint : {T : Type 0} → ℕ → List (QueryCursorState T) → Type 0
HasLeastHint at cursors = (c : QueryCursorState _) → c ≡ get_or cursors at c → AllByRecursion (λ (d : QueryCursorState _). c.hint ≤ d.hint) cursors

-- The first of some cursors has this hint, and none has a lesser one. Without cursors it is 0.
abbrev pub LeadsWith : {T : Type 0} → ℕ → List (QueryCursorState T) → Type 0
LeadsWith hint [] = hint ≡ 0
LeadsWith hint (c ∷ cs) = (hint ≡ c.hint) × AllByRecursion (λ (d : QueryCursorState _). c.hint ≤ d.hint) (c ∷ cs)

-- A cursor dropped the documents below a target.
pub record WentTo {T : Type 0} (went : T → T → Type 0) (target : ℕ) (old new : QueryCursorState T) : Type 0 where
  pub rest : new.rest ≡ from_doc target old.rest
  pub sound : IsSound new.rest
  pub depth : new.depth ≡ old.depth
  pub work : AllZip went old.cursors new.cursors

-- A cursor dropped no documents from the target on.
pub record KeptFrom {T : Type 0} (went : T → T → Type 0) (target : ℕ) (old new : QueryCursorState T) : Type 0 where
  pub alike : (d : ℕ) → target ≤ d → has_doc new.rest d ≡ has_doc old.rest d
  pub depth : new.depth ≡ old.depth
  pub work : AllZip went old.cursors new.cursors

-- the remaining documents, given those of a single cursor
abbrev pub rest_of : {T : Type 0} → (T → List Entry) → QueryParts T → List Entry
rest_of rest Nothing = []
rest_of rest (One cursor) = rest cursor
rest_of rest (All docs) = all_from docs.next (docs.end - docs.next)
rest_of rest (Set docs) = docs_between docs.docs docs.next docs.end
rest_of rest (Intersection leader others) = intersection_of (rests (leader.value ∷ others.items))
rest_of rest (Either first other) = either first.value.rest other.value.rest
rest_of rest (Union parts) = union_of (rests parts.items)
rest_of rest (Without first other) = without first.value.rest other.value.rest

-- the nesting depth
abbrev pub depth_of : {T : Type 0} → QueryParts T → ℕ
depth_of Nothing = 0
depth_of (One cursor) = 0
depth_of (All docs) = 0
depth_of (Set docs) = 0
depth_of (Intersection leader others) = depth_over (leader.value ∷ others.items)
depth_of (Either first other) = max first.value.depth other.value.depth + 1
depth_of (Union parts) = depth_over parts.items
depth_of (Without first other) = max first.value.depth other.value.depth + 1

-- the cursors under it
abbrev pub cursors_of : {T : Type 0} → QueryParts T → List T
cursors_of Nothing = []
cursors_of (One cursor) = cursor ∷ []
cursors_of (All docs) = []
cursors_of (Set docs) = []
cursors_of (Intersection leader others) = cursors_under (leader.value ∷ others.items)
cursors_of (Either first other) = first.value.cursors ++ other.value.cursors
cursors_of (Union parts) = cursors_under parts.items
cursors_of (Without first other) = first.value.cursors ++ other.value.cursors

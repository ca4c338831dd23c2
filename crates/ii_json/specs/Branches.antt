-- The branches of a JSON value during a visit, and the leaves that are still to come.
use Rattle.std.specs.Prelude.{ℕ, ◌+◌, ◌-◌, Bool, false, List, [], ◌∷◌, ◌++◌, length, map, take, Option, None, Some, option_map, if◌then◌else◌}
use Rattle.ii_base.specs.Json.{Json, Items, Members, Leaf, array, item, items_from, json_of, leaf, member, members_from, no_items, no_members, null, object}
use Rattle.ii_base.specs.Paths.{PathState, has_zero, segment_bytes}
use Rattle.ii_json.specs.declared.branch.Branch.{Branch}
use Rattle.ii_json.specs.declared.branch.Branch.TheVariants as branches
use Rattle.ii_json.specs.declared.branch.OuterBranch.{OuterBranch}
use Rattle.ii_json.specs.declared.branch.Part.{Part}
use Rattle.ii_json.specs.LeafVisit.{items_leaves_at, leaves_at, members_leaves_at}

-- a path with a further segment
abbrev pub with_key : PathState → List ℕ → PathState
with_key at key = record at { segments = at.segments ++ segment_bytes at.expand_dots key ∷ [] }

-- a path without its last segment
abbrev pub without_last : PathState → PathState
without_last at = record at { segments = take (length at.segments - 1) at.segments }

-- the path of a part: an element has that of its array, a member one segment more
abbrev pub path_at : PathState → Option (List ℕ) → PathState
path_at at None = at
path_at at (Some key) = with_key at key

-- whether a key holds byte 0
abbrev pub key_has_zero : Option (List ℕ) → Bool
key_has_zero None = false
key_has_zero (Some key) = has_zero key

-- the bytes of a part's key
abbrev pub key_bytes : Part → Option (List ℕ)
key_bytes part = option_map (λ k. k.now) part.key

-- the leaves of a part of a branch at this path
abbrev pub part_leaves : PathState → Part → List (List ℕ × Leaf)
part_leaves at part = if key_has_zero (key_bytes part) then [] else leaves_at (path_at at (key_bytes part)) part.value.now

-- the leaves of a branch at this path
abbrev pub branch_leaves : PathState → Branch → List (List ℕ × Leaf)
branch_leaves at (branches.Items items) = items_leaves_at at items.now
branch_leaves at (branches.Members members) = members_leaves_at at members.now

-- the path of an open branch, given that of the part in it
abbrev pub path_around : PathState → OuterBranch → PathState
path_around at b = if b.has_key then without_last at else at

-- the path of the outermost of these open branches, the innermost first
abbrev pub path_outside : PathState → List OuterBranch → PathState
path_outside at [] = at
path_outside at (b ∷ outer) = path_outside (path_around at b) outer

-- the leaves of the open branches, the innermost first
abbrev pub leaves_outside : PathState → List OuterBranch → List (List ℕ × Leaf)
leaves_outside at [] = []
leaves_outside at (b ∷ outer) = branch_leaves (path_around at b) b.branch ++ leaves_outside (path_around at b) outer

-- the number of values in a value, arrays and objects counted twice
abbrev mutual
  pub nodes : Json → ℕ
  nodes null = 1
  nodes (leaf l) = 1
  nodes (array is) = 2 + items_nodes is
  nodes (object ms) = 2 + members_nodes ms

  pub items_nodes : Items → ℕ
  items_nodes no_items = 0
  items_nodes (item j is) = nodes j + items_nodes is

  pub members_nodes : Members → ℕ
  members_nodes no_members = 0
  members_nodes (member k j ms) = nodes j + members_nodes ms

-- the number of values in the parts of a branch
abbrev pub branch_nodes : Branch → ℕ
branch_nodes (branches.Items items) = items_nodes (items_from (map json_of items.now))
branch_nodes (branches.Members members) = members_nodes (members_from (map (λ m. (m.0, json_of m.1)) members.now))

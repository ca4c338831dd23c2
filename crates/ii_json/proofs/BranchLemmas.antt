-- Branches that are opened and left.
use Rattle.std.proofs.Common.{◌≡◌, ◌∙◌, ℕ, ◌+◌, true, false, List, [], ◌∷◌, ◌++◌, append_assoc, reverse, Option, Some, None, is_some, ap, sym, refl, subst}
use Rattle.std.specs.Prelude.{if◌then◌else◌}
use mathlib.Core.List.{reverse-append}
use Rattle.ii_base.specs.Paths.{PathState, has_zero, joined_segments}
use Rattle.ii_json.specs.declared.branch.Branch.{Branch}
use Rattle.ii_json.specs.declared.branch.OuterBranch.{OuterBranch}
use Rattle.ii_json.specs.declared.branch.Part.{Part}
use Rattle.ii_json.specs.Branches.{branch_leaves, branch_nodes, key_bytes, key_has_zero, leaves_outside, part_leaves, path_around, path_at, path_outside, without_last}
use Rattle.ii_json.specs.LeafVisit.{leaves_at}
use Rattle.ii_json.proofs.LeafVisitLemmas.{AtPath, key_popped}

-- no path of these open branches holds byte 0, the innermost first
abbrev pub AllClean : PathState → List OuterBranch → Type 0
AllClean at [] = has_zero (joined_segments at.segments) ≡ false
AllClean at (b ∷ outer) = (has_zero (joined_segments at.segments) ≡ false) × AllClean (path_around at b) outer

pub innermost_clean : (at : PathState) (outer : List OuterBranch) → AllClean at outer → has_zero (joined_segments at.segments) ≡ false
innermost_clean at [] clean = clean
innermost_clean at (b ∷ outer) clean = clean.0

-- the number of values in open branches, with one more for each
abbrev pub outer_nodes : List OuterBranch → ℕ
outer_nodes [] = 0
outer_nodes (b ∷ outer) = 1 + branch_nodes b.branch + outer_nodes outer

-- the branch opened last is the innermost
pub opened_last : (new old : List OuterBranch) (b : OuterBranch) → new ≡ old ++ b ∷ [] → reverse new ≡ b ∷ reverse old
opened_last new old b is = ap reverse is ∙ reverse-append old (b ∷ [])

around_part : (at : PathState) (key : Option (List ℕ)) → (if is_some key then without_last (path_at at key) else path_at at key) ≡ at
around_part at None = refl
around_part at (Some key) = key_popped at key

-- the path around the part of an open branch is that of the branch
pub around_opened : (at new : PathState) (part : Part) (b : OuterBranch) → new ≡ path_at at (key_bytes part) → b.has_key ≡ is_some (key_bytes part) → path_around new b ≡ at
around_opened at new part b is keyed = rw (keyed, is) (around_part at (key_bytes part))

-- The path of the innermost of these open branches, from that of the outermost.
pub record IsBelow (start at : PathState) (outer : List OuterBranch) : Type 0 where
  pub path : path_outside at outer ≡ start
  pub clean : AllClean at outer

pub below_opened : (start at new : PathState) (part : Part) (b : OuterBranch) (outer : List OuterBranch) → IsBelow start at outer
    → new ≡ path_at at (key_bytes part) → b.has_key ≡ is_some (key_bytes part) → has_zero (joined_segments new.segments) ≡ false → IsBelow start new (b ∷ outer)
below_opened start at new part b outer is path keyed clean =
    let around = sym (around_opened at new part b path keyed) in
    record {
      path = subst (λ (p : PathState). path_outside p outer ≡ start) around is.path;
      clean = (clean, subst (λ (p : PathState). AllClean p outer) around is.clean);
    }

-- A part of a branch was taken out of it.
pub record IsSplit (current rest : Branch) (part : Part) : Type 0 where
  pub leaves : (at : PathState) → branch_leaves at current ≡ part_leaves at part ++ branch_leaves at rest

-- the leaves to come, with those of the first part apart
pub first_apart : (at : PathState) (current rest : Branch) (part : Part) (outer : List OuterBranch) → IsSplit current rest part
    → branch_leaves at current ++ leaves_outside at outer ≡ part_leaves at part ++ (branch_leaves at rest ++ leaves_outside at outer)
first_apart at current rest part outer is = ap (λ (l : List AtPath). l ++ leaves_outside at outer) (is.leaves at) ∙ append_assoc (part_leaves at part) (branch_leaves at rest) (leaves_outside at outer)

-- a member whose key holds byte 0 has no leaves
pub skipped : (at : PathState) (current rest : Branch) (part : Part) (outer : List OuterBranch) → IsSplit current rest part → key_has_zero (key_bytes part) ≡ true
    → branch_leaves at current ++ leaves_outside at outer ≡ branch_leaves at rest ++ leaves_outside at outer
skipped at current rest part outer is zero =
    let none : part_leaves at part ≡ [] = rw zero refl in
    first_apart at current rest part outer is ∙ ap (λ (l : List AtPath). l ++ (branch_leaves at rest ++ leaves_outside at outer)) none

-- the leaves to come after a part was opened
pub opened : (at new : PathState) (current inner : Branch) (part : Part) (b : OuterBranch) (outer : List OuterBranch) → IsSplit current b.branch part → key_has_zero (key_bytes part) ≡ false
    → new ≡ path_at at (key_bytes part) → b.has_key ≡ is_some (key_bytes part) → ((here : PathState) → branch_leaves here inner ≡ leaves_at here part.value.now)
    → branch_leaves at current ++ leaves_outside at outer ≡ branch_leaves new inner ++ leaves_outside new (b ∷ outer)
opened at new current inner part b outer is clean path keyed whole =
    let first : part_leaves at part ≡ branch_leaves new inner = rw clean (rw (← path) (sym (whole new))) in
    first_apart at current b.branch part outer is
    ∙ ap (λ (l : List AtPath). l ++ (branch_leaves at b.branch ++ leaves_outside at outer)) first
    ∙ ap (λ (p : PathState). branch_leaves new inner ++ (branch_leaves p b.branch ++ leaves_outside p outer)) (sym (around_opened at new part b path keyed))

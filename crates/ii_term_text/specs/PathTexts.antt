-- The path of a JSON key as text, as `terms` prints it and `postings` reads it.
use Rattle.std.specs.Prelude.{ℕ, Bool, ◌&&◌, ◌||◌, ◌==◌, not, List, [], ◌∷◌, Option, None, Some, flat_map, if◌then◌else◌, option_map, suc}
use Rattle.std.specs.List.{list_any}

-- whether a backslash is written before a byte: a dot, a backslash or a space
abbrev pub is_escaped : ℕ → Bool
is_escaped b = b == 46 || b == 92 || b == 32

-- a byte of a path as text: byte 1, which separates two keys, as a dot
abbrev pub byte_text : ℕ → List ℕ
byte_text b = if b == 1 then 46 ∷ [] else if is_escaped b then 92 ∷ b ∷ [] else b ∷ []

-- a path as text
abbrev pub path_text : List ℕ → List ℕ
path_text path = flat_map byte_text path

-- A text that is cut in two.
pub record Cut : Type 0 where
  pub front : List ℕ
  pub rest : List ℕ

-- a cut with one byte more in front
abbrev pub behind_byte : ℕ → Cut → Cut
behind_byte b c = record { front = b ∷ c.front; rest = c.rest }

-- a text cut at its first space that no backslash keeps, which is left out; whether a backslash keeps the first byte
abbrev pub cut_at_space : Bool → List ℕ → Option Cut
cut_at_space kept [] = None
cut_at_space kept (b ∷ bs) =
    if not kept && (b == 32) then Some (record { front = []; rest = bs })
    else option_map (behind_byte b) (cut_at_space (not kept && (b == 92)) bs)

-- how many bytes come before that space
abbrev pub space_place : Bool → List ℕ → ℕ
space_place kept [] = 0
space_place kept (b ∷ bs) = if not kept && (b == 32) then 0 else suc (space_place (not kept && (b == 92)) bs)

-- whether bytes hold a dot
abbrev pub has_dot : List ℕ → Bool
has_dot bytes = list_any (λ (b : ℕ). b == 46) bytes

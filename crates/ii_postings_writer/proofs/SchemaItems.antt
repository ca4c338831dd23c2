-- A list with an item for each field of a schema.
use Rattle.std.proofs.Common.{◌≡◌, ℕ, ◌+◌, List, [], ◌∷◌, ◌++◌, map, sym, ap, ◌∙◌, refl, append-nil}
use Rattle.std.specs.List.{enumerate_from}
use Rattle.ii_base.specs.Schema.{SchemaEntry}

map_entries : {A : Type 0} (f : SchemaEntry → A) (first : ℕ) (entries : List SchemaEntry) → map (λ (e : ℕ × SchemaEntry). f e.1) (enumerate_from first entries) ≡ map f entries
map_entries f first [] = refl
map_entries f first (e ∷ es) = ap (λ xs. f e ∷ xs) (map_entries f (first + 1) es)

-- an item was made for each
pub all_made : {A : Type 0} (f : SchemaEntry → A) (made : List A) (rest : List (ℕ × SchemaEntry)) (entries : List SchemaEntry) → rest ≡ []
    → made ++ map (λ (e : ℕ × SchemaEntry). f e.1) rest ≡ map (λ (e : ℕ × SchemaEntry). f e.1) (enumerate_from 0 entries) → made ≡ map f entries
all_made f made rest entries is h =
    sym (append-nil made) ∙ ap (λ (es : List (ℕ × SchemaEntry)). made ++ map (λ (e : ℕ × SchemaEntry). f e.1) es) (sym is) ∙ h ∙ map_entries f 0 entries

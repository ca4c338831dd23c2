-- The type in a JSON key.
use Rattle.std.proofs.Common.{true≢false, ◌≡◌, ℕ, suc, ◌+◌, Bool, true, false, ◌==◌, List, [], ◌∷◌, length, take, refl, sym, ap, ◌∙◌, arith}
use Rattle.std.specs.Prelude.{Some, slice_get}
use Rattle.std.specs.List.{prefix_len}
use Rattle.ii_base.specs.Paths.{has_zero}
use Rattle.ii_base.specs.Values.{json_key}
use Rattle.ii_definitions.specs.JsonKeys.{is_path_byte, path_in, type_in, type_of_code}

-- the path is what comes before the first byte 0
pub path_of_key : (path key : List ℕ) → has_zero path ≡ false → path_in (json_key path key) ≡ path
path_of_key [] key none = refl
path_of_key (b ∷ bs) key none = by (b == 0) refl (path_of_key bs key)
  where
    by : (is : Bool) → (b == 0) ≡ is → (has_zero bs ≡ false → path_in (json_key bs key) ≡ bs) → path_in (b ∷ json_key bs key) ≡ b ∷ bs
    by true at rest = absurd (true≢false (sym (rw at refl) ∙ none))
    by false at rest =
        let n = prefix_len is_path_byte (json_key bs key) in
        let more : 1 + n ≡ suc n = omega (arith) in
        rw at (ap (λ (k : ℕ). take k (b ∷ json_key bs key)) more ∙ ap (λ (l : List ℕ). b ∷ l) (rest (sym (rw at refl) ∙ none)))

code_at : (path : List ℕ) (code : ℕ) (key : List ℕ) → slice_get (json_key path (code ∷ key)) (length path + 1) ≡ Some code
code_at [] code key = refl
code_at (b ∷ bs) code key =
    let next : length (b ∷ bs) + 1 ≡ suc (length bs + 1) = omega (arith) in
    ap (slice_get (b ∷ json_key bs (code ∷ key))) next ∙ code_at bs code key

-- the letter after the path determines the type
pub type_in_key : (path : List ℕ) (code : ℕ) (key : List ℕ) → has_zero path ≡ false → type_in (json_key path (code ∷ key)) ≡ type_of_code code
unfolding type_in
type_in_key path code key none = rw (path_of_key path (code ∷ key) none, code_at path code key) refl

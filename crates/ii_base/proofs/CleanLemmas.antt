-- A segment of a path keeps having no byte 0 where its dots part it.
use Rattle.std.proofs.Common.{◌≡◌, ◌∙◌, ◌==◌, ◌||◌, ℕ, Bool, true, false, List, [], ◌∷◌, map, refl, ap}
use Rattle.std.specs.Prelude.{if◌then◌else◌}
use Rattle.std.proofs.lemmas.Bool.{eqb-true}
use Rattle.ii_base.specs.Paths.{has_zero, segment_bytes}

clean_expanded : (k : List ℕ) → has_zero (map (λ c. if c == 46 then 1 else c) k) ≡ has_zero k
clean_expanded [] = refl
clean_expanded (c ∷ cs) = by (c == 46) refl (clean_expanded cs)
  where
    by : (b : Bool) → (c == 46) ≡ b → has_zero (map (λ d. if d == 46 then 1 else d) cs) ≡ has_zero cs → has_zero (map (λ d. if d == 46 then 1 else d) (c ∷ cs)) ≡ has_zero (c ∷ cs)
    by true is others =
        let at : c ≡ 46 = eqb-true c 46 is in
        let none : (c == 0) ≡ false = rw at refl in
        rw (is, none) others
    by false is others = rw is (ap (λ (b : Bool). (c == 0) || b) others)

-- parted at its dots, too
pub clean_segment : (expand_dots : Bool) (k : List ℕ) → has_zero k ≡ false → has_zero (segment_bytes expand_dots k) ≡ false
clean_segment false k none = none
clean_segment true k none = clean_expanded k ∙ none

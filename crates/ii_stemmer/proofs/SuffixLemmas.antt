-- A word whose last letter is not that of a suffix doesn't have the suffix.
use Rattle.std.proofs.Common.{◌≡◌, ◌≢◌, ℕ, ◌-◌, ◌<◌, ◌≤◌, Bool, true, false, List, eqb, length, take, get_or, refl, sym, ap, ◌∙◌, arith}
use Rattle.std.specs.List.{ends_with}
use Rattle.std.proofs.lemmas.Bool.Decides.{Decides-eqb}
use Rattle.std.proofs.lemmas.List.{get_or-append_right, length-take-le}
use Rattle.std.proofs.lemmas.Slice.Eq.{ends_is}

pub other_end : (word suffix : List ℕ) → 0 < length suffix → length suffix ≤ length word → get_or suffix (length suffix - 1) 0 ≢ get_or word (length word - 1) 0 → false ≡ ends_with eqb word suffix
other_end word suffix some fits apart = by_case (ends_with eqb word suffix) refl
  where
    by_case : (b : Bool) → ends_with eqb word suffix ≡ b → false ≡ ends_with eqb word suffix
    by_case false is = sym is
    by_case true is =
        let k = length word - length suffix in
        let whole = (ends_is Decides-eqb word suffix true (sym is)).0 refl in
        let place : length word - 1 - k ≡ length suffix - 1 = omega (arith, some, fits) in
        let same : get_or word (length word - 1) 0 ≡ get_or suffix (length suffix - 1) 0 =
        ap (λ (bs : List ℕ). get_or bs (length word - 1) 0) whole
        ∙ get_or-append_right (take k word) suffix k (length word - 1) 0 (length-take-le k word (omega arith)) (omega (arith, some, fits))
        ∙ ap (λ (i : ℕ). get_or suffix i 0) place in
        absurd (apart (sym same))

-- Laws of vowels and consonants.
use Rattle.std.proofs.Common.{◌≡◌, ℕ, suc, ◌+◌, ◌-◌, ◌<◌, Bool, false, not, List, drop, get_or, length, refl, arith}
use Rattle.std.specs.Prelude.{slice_index_or}
use Rattle.std.proofs.lemmas.List.{drop_more}
use Rattle.ii_stemmer.specs.Letters.{is_vowel, vowels_after}

-- the letter at a place, looked for from one letter further on
pub one_later : (word : List ℕ) (at place : ℕ) (after : Bool) → at < length word → at < place
    → slice_index_or (vowels_after after (drop at word)) (place - at) false ≡ slice_index_or (vowels_after (not (is_vowel after (get_or word at 0))) (drop (at + 1) word)) (place - (at + 1)) false
one_later word at place after within before =
    let later : place - at ≡ suc (place - (at + 1)) = omega arith in
    rw (drop_more word at 0 within, later) refl

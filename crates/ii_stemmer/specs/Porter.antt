-- The stemmer of Porter's "An algorithm for suffix stripping", 1980, step by step.
use Rattle.std.specs.Prelude.{ℕ, ◌-◌, Bool, true, not, ◌&&◌, ◌||◌, ◌++◌, ◌==◌, List, [], ◌∷◌, codes, eqb, length, nat_le, nat_lt, take, if◌then◌else◌}
use Rattle.std.specs.List.{ends_with}
use Rattle.ii_stemmer.specs.Letters.{ends_cvc, ends_double, ends_with_one_of, measure}
use Rattle.ii_stemmer.specs.Rules.{apply_first, step_1a_rules, step_1b_rules, step_1c_rules, step_2_rules, step_3_rules, step_4_rules, step_5a_rules}

-- a word without its last letter
abbrev pub without_last : List ℕ → List ℕ
without_last word = take (length word - 1) word

-- a word that lost "ed" or "ing": "at", "bl" and "iz" get an e, a double consonant becomes a single one, a short stem gets an e
abbrev pub mended : List ℕ → List ℕ
mended word =
    if ends_with eqb word (codes "at") || ends_with eqb word (codes "bl") || ends_with eqb word (codes "iz") then word ++ codes "e"
    else if ends_double word && not (ends_with_one_of (codes "lsz") word) then without_last word
    else if measure word == 1 && ends_cvc word then word ++ codes "e"
    else word

-- step 1b: a word that loses "ed" or "ing" is mended
abbrev pub step_1b : List ℕ → List ℕ
step_1b word =
    let shorter = apply_first step_1b_rules word in
    if ends_with eqb word (codes "eed") || length shorter == length word then shorter else mended shorter

-- step 5b: a final double l becomes a single one
abbrev pub step_5b : List ℕ → List ℕ
step_5b word = if nat_lt 1 (measure word) && ends_double word && ends_with_one_of (codes "l") word then without_last word else word

-- steps 1a to 1c: plurals, "ed", "ing" and y
abbrev pub step_1 : List ℕ → List ℕ
step_1 word = apply_first step_1c_rules (step_1b (apply_first step_1a_rules word))

-- steps 2 to 4: longer suffixes
abbrev pub steps_2_to_4 : List ℕ → List ℕ
steps_2_to_4 word = apply_first step_4_rules (apply_first step_3_rules (apply_first step_2_rules word))

-- steps 5a and 5b: a final e, and a final double l
abbrev pub step_5 : List ℕ → List ℕ
step_5 word = step_5b (apply_first step_5a_rules word)

-- whether all letters are 'a' to 'z'
abbrev pub are_letters : List ℕ → Bool
are_letters [] = true
are_letters (c ∷ cs) = nat_le 97 c && nat_le c 122 && are_letters cs

-- the stem of a word; one of fewer than three letters, or with another character than 'a' to 'z', is its own stem
abbrev pub porter : List ℕ → List ℕ
porter word = if nat_le 3 (length word) && are_letters word then step_5 (steps_2_to_4 (step_1 word)) else word

-- Vowels and consonants of a word, as Porter's paper of 1980 defines them. A word is a list of letters, 'a' to 'z'.
use Rattle.std.specs.Prelude.{ℕ, ◌+◌, ◌-◌, Bool, false, not, ◌&&◌, ◌||◌, ◌==◌, List, [], ◌∷◌, codes, length, nat_le, nat_lt, slice_index, slice_index_or, if◌then◌else◌}

-- whether a letter is one of some
abbrev pub is_one_of : List ℕ → ℕ → Bool
is_one_of [] c = false
is_one_of (x ∷ xs) c = x == c || is_one_of xs c

-- whether a letter is a vowel: a, e, i, o, u, or a y after a consonant
abbrev pub is_vowel : Bool → ℕ → Bool
is_vowel after_consonant c = is_one_of (codes "aeiou") c || (c == slice_index (codes "y") 0 && after_consonant)

-- which letters are vowels, given whether the letter before them is a consonant
abbrev pub vowels_after : Bool → List ℕ → List Bool
vowels_after after_consonant [] = []
vowels_after after_consonant (c ∷ cs) = is_vowel after_consonant c ∷ vowels_after (not (is_vowel after_consonant c)) cs

-- which letters of a word are vowels; a y at its start is none
abbrev pub vowels : List ℕ → List Bool
vowels word = vowels_after false word

-- how often a vowel is followed by a consonant, given whether the letter before is a vowel
abbrev pub changes : Bool → List Bool → ℕ
changes after_vowel [] = 0
changes after_vowel (vowel ∷ rest) = (if after_vowel && not vowel then 1 else 0) + changes vowel rest

-- m, the measure of a word: how often a run of vowels is followed by a run of consonants
abbrev pub measure : List ℕ → ℕ
measure word = changes false (vowels word)

-- whether one of some letters is a vowel
abbrev pub any_vowel : List Bool → Bool
any_vowel [] = false
any_vowel (vowel ∷ rest) = vowel || any_vowel rest

-- *v*: a word has a vowel
abbrev pub has_vowel : List ℕ → Bool
has_vowel word = any_vowel (vowels word)

-- whether the letter at a place is a vowel
abbrev pub is_vowel_at : List ℕ → ℕ → Bool
is_vowel_at word i = slice_index_or (vowels word) i false

-- *S, *L and so on: a word ends with one of some letters
abbrev pub ends_with_one_of : List ℕ → List ℕ → Bool
ends_with_one_of letters word = nat_lt 0 (length word) && is_one_of letters (slice_index word (length word - 1))

-- *d: a word ends with a double consonant
abbrev pub ends_double : List ℕ → Bool
ends_double word =
    let n = length word in
    nat_le 2 n && slice_index word (n - 2) == slice_index word (n - 1) && not (is_vowel_at word (n - 1))

-- *o: a word ends with consonant, vowel, consonant, of which the last is not w, x or y
abbrev pub ends_cvc : List ℕ → Bool
ends_cvc word =
    let n = length word in
    nat_le 3 n && not (is_vowel_at word (n - 3)) && is_vowel_at word (n - 2) && not (is_vowel_at word (n - 1)) && not (ends_with_one_of (codes "wxy") word)

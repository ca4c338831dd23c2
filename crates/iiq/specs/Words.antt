-- Lines, words, numbers and bytes in a text.
use Rattle.std.specs.Prelude.{ℕ, ◌+◌, ◌-◌, ◌*◌, ◌^◌, Bool, true, false, ℤ, pos, neg_ℤ, ◌&&◌, List, [], ◌∷◌, length, nat_lt, ◌==◌, if◌then◌else◌, Option, Some, None, codes}
use Rattle.std.specs.List.{AllByRecursion, slice_split}
use Rattle.std.specs.Option.{option_map}
use Rattle.std.specs.Result.{result_ok}
use Rattle.std.specs.Str.{IsUtf8, all_ascii_digits, bytes_eq}
use Rattle.hex.specs.Hex.{encode_lower, decode_of}
use Rattle.ii_io.specs.Steps.{◌>>=◌, needs}

-- the parts of a text between bytes c; a part is empty between two adjacent c, and at an end that has one
abbrev pub parts : ℕ → List ℕ → List (List ℕ)
parts c text = slice_split (λ b. b == c) text

-- the parts of the remaining text, if there is any
abbrev pub parts_left : ℕ → Option (List ℕ) → List (List ℕ)
parts_left c None = []
parts_left c (Some text) = parts c text

-- the lines of a text, and what follows its last line end
abbrev pub lines_of : List ℕ → List (List ℕ)
lines_of text = parts 10 text

-- the words of a line
abbrev pub line_words : List ℕ → List (List ℕ)
line_words line = parts 32 line

-- All words are UTF-8.
abbrev pub AreTexts : List (List ℕ) → Type 0
AreTexts words = AllByRecursion IsUtf8 words

-- a number with more decimal digits
abbrev pub number_on : ℕ → List ℕ → ℕ
number_on n [] = n
number_on n (c ∷ cs) = number_on (10 * n + (c - 48)) cs

-- the number of a word of decimal digits, if it is below a limit
abbrev pub number_below : ℕ → List ℕ → Option ℕ
number_below limit word = do
  _ ← needs (nat_lt 0 (length word) && all_ascii_digits word && nat_lt (number_on 0 word) limit)
  Some (number_on 0 word)

-- the signed 64-bit number of a word of decimal digits, with or without a minus
abbrev pub signed_number : List ℕ → Option ℤ
signed_number [] = None
signed_number (c ∷ cs) =
    if c == 45 then option_map (λ n. neg_ℤ (pos n)) (number_below (2 ^ 63 + 1) cs)
    else option_map (λ n. pos n) (number_below (2 ^ 63) (c ∷ cs))

-- the boolean that a word spells
abbrev pub truth_of_word : List ℕ → Option Bool
truth_of_word word =
    if bytes_eq word (codes "true") then Some true
    else if bytes_eq word (codes "false") then Some false
    else None

-- the numbers that words write, each below a limit
abbrev pub numbers_below : ℕ → List (List ℕ) → Option (List ℕ)
numbers_below limit [] = Some []
numbers_below limit (w ∷ ws) = do
  first ← number_below limit w
  others ← numbers_below limit ws
  Some (first ∷ others)

-- a dash
abbrev pub nothing : List ℕ
nothing = 45 ∷ []

-- the bytes of a hexadecimal word in either case; no bytes for a dash
abbrev pub bytes_of_word : List ℕ → Option (List ℕ)
bytes_of_word word = if bytes_eq word nothing then Some [] else (needs (nat_lt 0 (length word)) >>= λ _. result_ok (decode_of word))

-- what is written for bytes
abbrev pub written_hex : List ℕ → List ℕ
written_hex [] = nothing
written_hex (b ∷ bs) = encode_lower (b ∷ bs)

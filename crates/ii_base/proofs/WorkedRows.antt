-- Computed examples.
use Rattle.std.specs.Prelude.{◌≡◌, ◌++◌, [], ◌∷◌, codes, replicate, pos, negsuc, true, refl}
use Rattle.ii_base.specs.AsciiWords.{ascii_words}
use Rattle.ii_base.specs.Values.{flipped, number_of_bool, u64_bytes}

pub words_of_letters : ascii_words (codes "a bc.") ≡ record { offset_from = 0; offset_to = 1; position = 0; text = codes "a"; position_length = 1 } ∷ record { offset_from = 2; offset_to = 4; position = 1; text = codes "bc"; position_length = 1 } ∷ []
words_of_letters = refl

-- an e with an accent between two spaces
pub words_past_ascii : ascii_words (0x20 ∷ 0xC3 ∷ 0xA9 ∷ 0x39 ∷ 0x20 ∷ []) ≡ record { offset_from = 1; offset_to = 4; position = 0; text = 0xC3 ∷ 0xA9 ∷ 0x39 ∷ []; position_length = 1 } ∷ []
words_past_ascii = refl

pub words_of_nothing : ascii_words (codes "-_!/:@[`{~") ≡ []
words_of_nothing = refl

pub value_of_983 : u64_bytes 983 ≡ replicate 6 0 ++ 3 ∷ 0xD7 ∷ []
value_of_983 = refl

pub value_of_minus_4 : u64_bytes (flipped (negsuc 3)) ≡ 0x7F ∷ replicate 6 0xFF ++ 0xFC ∷ []
value_of_minus_4 = refl

pub value_of_5 : u64_bytes (flipped (pos 5)) ≡ 0x80 ∷ replicate 6 0 ++ 5 ∷ []
value_of_5 = refl

pub value_of_true : u64_bytes (number_of_bool true) ≡ replicate 7 0 ++ 1 ∷ []
value_of_true = refl

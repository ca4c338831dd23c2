-- Worked rows, each computed.
use Rattle.std.proofs.Common.{arith}
use Rattle.std.specs.Prelude.{◌≡◌, ℕ, List, [], ◌∷◌, codes, refl}
use Rattle.ii_base.specs.AsciiWords.{ascii_words}
use Rattle.ii_base.specs.Words.{Word}
use Rattle.ii_definitions.specs.Tokens.{Call, text, value, words}
use Rattle.ii_promises.specs.OrderlyCalls.{IsOrderly, num_positions_of}

abbrev text_of : List ℕ → Call
text_of bytes = record { doc = 0; field = 0; content = text bytes }

abbrev word_at : ℕ → Word
word_at position = record { offset_from = 0; offset_to = 0; position = position; text = []; position_length = 1 }

-- positions that texts take, each with the gap after it; a number takes one
pub three_positions : num_positions_of ascii_words (text_of (codes "a b") ∷ text_of [] ∷ text_of (codes "a") ∷ []) ≡ 6
three_positions = refl

pub number_position : num_positions_of ascii_words (record { doc = 0; field = 0; content = value (5 ∷ []) } ∷ []) ≡ 1
number_position = refl

-- equal positions are in order, lesser ones are not
pub same_position : IsOrderly ascii_words (words (word_at 0 ∷ word_at 2 ∷ word_at 2 ∷ []))
same_position = (omega arith, (omega arith, (omega arith, tt)))

pub lesser_position : IsOrderly ascii_words (words (word_at 2 ∷ word_at 1 ∷ [])) → ⊥
lesser_position ordered = absurd (omega (arith, ordered.1.0))

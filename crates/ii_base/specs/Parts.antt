-- Parts of texts, and the tokens that they become. The parts of an ASCII text: runs of letters, digits and underscores.
use Rattle.std.specs.Prelude.{ℕ, ◌+◌, Bool, not, ◌||◌, ◌==◌, List, [], ◌∷◌, encode_utf8_all, filter, length, if◌then◌else◌}
use Rattle.std.specs.Char.{is_ascii_alphanumeric, len_utf8}
use Rattle.std.specs.List.{list_any}
use Rattle.ii_base.specs.Words.{Word}

-- A part of a text: where its first byte is, and its characters.
pub record Part : Type 0 where
  pub offset : ℕ
  pub characters : List ℕ

-- parts, with a character put in front of the first
abbrev pub in_front : ℕ → ℕ → List Part → List Part
in_front offset c [] = record { offset = offset; characters = c ∷ [] } ∷ []
in_front offset c (p ∷ ps) = record { offset = offset; characters = c ∷ p.characters } ∷ ps

-- the parts of characters between those that pass a test, some of them empty; the first character is at an offset
unfoldable pub parts_between : (ℕ → Bool) → ℕ → List ℕ → List Part
parts_between test offset [] = record { offset = offset; characters = [] } ∷ []
parts_between test offset (c ∷ cs) =
    let rest = parts_between test (offset + len_utf8 c) cs in
    if test c then record { offset = offset; characters = [] } ∷ rest else in_front offset c rest

-- the token of a part, at a position
abbrev pub part_word : ℕ → Part → Word
part_word position p = record {
  offset_from = p.offset;
  offset_to = p.offset + length (encode_utf8_all p.characters);
  position = position;
  text = encode_utf8_all p.characters;
  position_length = 1;
}

-- parts as tokens, the first at a position
abbrev pub part_words : ℕ → List Part → List Word
part_words position [] = []
part_words position (p ∷ ps) = part_word position p ∷ part_words (position + 1) ps

-- whether a character is an ASCII letter, an ASCII digit or the underscore
abbrev pub is_word_character : ℕ → Bool
is_word_character c = is_ascii_alphanumeric c || c == 95

-- the parts that have a letter or a digit
abbrev pub spoken_parts : List Part → List Part
spoken_parts ps = filter (λ (p : Part). list_any is_ascii_alphanumeric p.characters) ps

-- the maximal runs of letters, digits and underscores that have a letter or a digit; the first character is at an offset
abbrev pub ascii_parts : ℕ → List ℕ → List Part
ascii_parts offset text = spoken_parts (parts_between (λ (c : ℕ). not (is_word_character c)) offset text)

-- Keys of lines, and the last line of each key, computed on examples.
use Rattle.std.proofs.Common.{◌≡◌, ℕ, List, [], ◌∷◌, None, Some, codes, refl}
use Rattle.ii_base.specs.Json.{text_leaf}
use Rattle.ii_base.specs.Words.{Word}
use Rattle.ii_definitions.specs.Tokens.{Call, Content, leaves, text, value, words}
use Rattle.nequllpa_indexing.specs.KeyedLines.{KeyedLineState, key_of_calls, last_of_each_key}

abbrev word : ℕ → List ℕ → Word
word position t = record { offset_from = 0; offset_to = 0; position = position; text = t; position_length = 1 }

-- the words of each text, given by hand: of an empty text none, of one byte this byte, of two bytes each
abbrev by_bytes : ℕ → List ℕ → List Word
by_bytes field [] = []
by_bytes field (a ∷ []) = word 0 (a ∷ []) ∷ []
by_bytes field (a ∷ b ∷ bs) = word 0 (a ∷ []) ∷ word 1 (b ∷ []) ∷ []

abbrev call : ℕ → Content → Call
call field content = record { doc = 0; field = field; content = content }

-- the only word of a text, and the bytes of a value, whatever other fields have
one_word : key_of_calls by_bytes 1 (call 0 (text (codes "a")) ∷ call 1 (text (codes "b")) ∷ []) ≡ Some (codes "b")
one_word = refl

one_value : key_of_calls by_bytes 2 (call 2 (value (0 ∷ 7 ∷ [])) ∷ call 3 (text (codes "b")) ∷ []) ≡ Some (0 ∷ 7 ∷ [])
one_value = refl

-- no key: no value, two values, no word, two words, a JSON value, a list of tokens
no_value : key_of_calls by_bytes 1 (call 0 (text (codes "a")) ∷ []) ≡ None
no_value = refl

two_values : key_of_calls by_bytes 1 (call 1 (text (codes "a")) ∷ call 1 (text (codes "b")) ∷ []) ≡ None
two_values = refl

no_word : key_of_calls by_bytes 1 (call 1 (text []) ∷ []) ≡ None
no_word = refl

two_words : key_of_calls by_bytes 1 (call 1 (text (codes "ab")) ∷ []) ≡ None
two_words = refl

json_value : key_of_calls by_bytes 1 (call 1 (leaves ((codes "p", text_leaf (codes "a")) ∷ [])) ∷ []) ≡ None
json_value = refl

tokens : key_of_calls by_bytes 1 (call 1 (words (word 0 (codes "a") ∷ [])) ∷ []) ≡ None
tokens = refl

-- of three lines, the first and the third have the same key
abbrev line : List ℕ → List ℕ → KeyedLineState
line key t = record { key = key; text = t }

last_lines : last_of_each_key (line (codes "b") (codes "x") ∷ line (codes "c") (codes "y") ∷ line (codes "b") (codes "z") ∷ []) ≡ line (codes "c") (codes "y") ∷ line (codes "b") (codes "z") ∷ []
last_lines = refl

-- The tokens of a text, and the remaining ones of a stream.
use Rattle.std.specs.Prelude.{ℕ, List, Option, filter, length, map, nat_lt, string_bytes}
use Rattle.std.specs.Char.{to_ascii_lowercase}
use Rattle.ii_base.specs.declared.tokenizer.token.Token.{Token}
use Rattle.ii_base.specs.declared.tokenizer.token_view.TokenView.{TokenView}

-- A token of a text: its byte offsets, position, bytes, and how many positions it covers.
pub record Word : Type 0 where
  pub offset_from : ℕ
  pub offset_to : ℕ
  pub position : ℕ
  pub text : List ℕ
  pub position_length : ℕ

-- the model of a token
abbrev pub word_of : Token → Word
word_of t = record {
  offset_from = t.offset_from;
  offset_to = t.offset_to;
  position = t.position;
  text = string_bytes t.text;
  position_length = t.position_length;
}

-- the model of a borrowed token
abbrev pub seen_word : TokenView → Word
seen_word t = record {
  offset_from = t.offset_from;
  offset_to = t.offset_to;
  position = t.position;
  text = t.text.now;
  position_length = t.position_length;
}

-- the models of a list of tokens
abbrev pub words_of : List Token → List Word
words_of ts = map word_of ts

-- the state of an iterator over a list: the current token, and the remaining ones
pub record TokenListState : Type 0 where
  pub current : Option Word
  pub to_come : List Word

-- a token with its ASCII capitals replaced by small letters
abbrev pub lowercase_word : Word → Word
lowercase_word w = record w { text = map to_ascii_lowercase w.text }

-- the tokens with fewer bytes than a limit
abbrev pub remove_long : ℕ → List Word → List Word
remove_long limit ws = filter (λ (w : Word). nat_lt (length w.text) limit) ws

-- The pieces of a text that a snippet shows.
use Rattle.std.specs.Prelude.{ℕ, ◌≡◌, ◌&&◌, ◌||◌, Bool, true, false, List, [], ◌∷◌, filter, get_or, length, nat_le, nat_lt, not, slice_index, if◌then◌else◌}
use Rattle.std.specs.List.{slice_range}
use Rattle.ii_snippet.specs.declared.fragments.SnippetPiece.{SnippetPiece}
use Rattle.ii_snippet.specs.declared.windows.SnippetToken.{SnippetToken}
use Rattle.ii_snippet.specs.Windows.{AreShown, is_unwanted}

-- a piece of a text, and whether it is a wanted word
pub record Piece : Type 0 where
  pub text : List ℕ
  pub is_wanted : Bool

-- the model of a piece
abbrev pub piece_of : SnippetPiece → Piece
piece_of p = record { text = p.text.now; is_wanted = p.is_wanted }

-- whether a character of a text begins at a place, or the text ends there
abbrev pub is_boundary : List ℕ → ℕ → Bool
is_boundary text place = nat_le place (length text) && (nat_le (length text) place || nat_lt (slice_index text place) 128 || nat_le 192 (slice_index text place))

-- the part of a text between two places, or nothing if they aren't between its characters, in order
abbrev pub cut : List ℕ → ℕ → ℕ → List ℕ
cut text from to = if nat_le from to && is_boundary text from && is_boundary text to then slice_range text from to else []

-- the pieces of a text between two places: each wanted token, and what is before it and after the last one
abbrev pub pieces_between : List ℕ → ℕ → ℕ → List SnippetToken → List Piece
pieces_between text from to [] = record { text = cut text from to; is_wanted = false } ∷ []
pieces_between text from to (t ∷ ts) = record { text = cut text from t.offset_from; is_wanted = false } ∷ record { text = cut text t.offset_from t.offset_to; is_wanted = true } ∷ pieces_between text t.offset_to to ts

-- the tokens that are wanted words
abbrev pub wanted_tokens : List SnippetToken → List SnippetToken
wanted_tokens ts = filter (λ (t : SnippetToken). not (is_unwanted t)) ts

-- the pieces of a text from the first token on, up to the last one
abbrev pub pieces_of : List ℕ → List SnippetToken → List Piece
pieces_of text [] = []
pieces_of text (t ∷ ts) = pieces_between text t.offset_from (get_or (t ∷ ts) (length ts) t).offset_to (wanted_tokens (t ∷ ts))

-- whether pieces are those of the tokens that a snippet of at most `limit` tokens shows
pub record ShowTokens (text : List ℕ) (limit : ℕ) (ts : List SnippetToken) (pieces : List Piece) : Type 0 where
  pub shown : List SnippetToken
  pub are_shown : AreShown limit ts shown
  pub are_pieces : pieces ≡ pieces_of text shown

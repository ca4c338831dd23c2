-- The tokens of a list of index calls.
use Rattle.std.specs.Prelude.{ℕ, ◌+◌, max, Bool, true, false, ◌&&◌, ◌==◌, List, [], ◌∷◌, ◌++◌, bytes_eq, filter, length, map, nat_le, Option, None, Some}
use Rattle.std.specs.List.{flat_map, fold}
use Rattle.ii_base.specs.Json.{Leaf, text_leaf, unsupported, value_leaf}
use Rattle.ii_base.specs.Values.{json_key, text_key, typed_key}
use Rattle.ii_base.specs.Words.{Word}

-- what a call indexes
pub data Content : Type 0 where
  text : List ℕ → Content
  words : List Word → Content
  value : List ℕ → Content
  leaves : List (List ℕ × Leaf) → Content

pub record Call : Type 0 where
  pub doc : ℕ
  pub field : ℕ
  pub content : Content

-- A token is under a key of a field, at a position of a document.
pub record IndexToken : Type 0 where
  pub doc : ℕ
  pub field : ℕ
  pub key : List ℕ
  pub position : ℕ
  pub of_text : Bool

-- A text or one value. A text's words have keys with the prefix; a value's key is the prefix.
pub record Piece : Type 0 where
  pub doc : ℕ
  pub field : ℕ
  pub path : Option (List ℕ)
  pub prefix : List ℕ
  pub is_text : Bool
  pub words : List Word

-- the length of the longest indexed word
abbrev pub max_token_len : ℕ
max_token_len = 65530

-- the words that aren't too long
abbrev pub kept_words : List Word → List Word
kept_words ws = filter (λ (w : Word). nat_le (length w.text) max_token_len) ws

-- the end of a text that begins at a place: the greatest of the begin and its kept words' ends, plus 1
abbrev pub end_after : ℕ → List Word → ℕ
end_after begin ws = fold (λ (end : ℕ) (w : Word). max end (begin + w.position + w.position_length)) begin (kept_words ws) + 1

-- whether two texts have the same document, field and prefix
abbrev pub is_same_group : Piece → Piece → Bool
is_same_group p q = q.is_text && (q.doc == p.doc) && (q.field == p.field) && bytes_eq q.prefix p.prefix

-- where a text begins after these pieces: at the end of the last text of its group, or at 0
abbrev pub begin_after : List Piece → Piece → ℕ
begin_after earlier p = fold (λ (end : ℕ) (q : Piece). end_after end q.words) 0 (filter (is_same_group p) earlier)

-- a word of a text that begins at a place
abbrev pub word_token : Piece → ℕ → Word → IndexToken
word_token p begin w = record { doc = p.doc; field = p.field; key = p.prefix ++ w.text; position = begin + w.position; of_text = true }

-- the token of a value
abbrev pub value_token : Piece → IndexToken
value_token p = record { doc = p.doc; field = p.field; key = p.prefix; position = 0; of_text = false }

-- the tokens of a piece whose text begins at a place
abbrev pub piece_tokens_from : Bool → ℕ → Piece → List IndexToken
piece_tokens_from true begin p = map (word_token p begin) (kept_words p.words)
piece_tokens_from false begin p = value_token p ∷ []

-- the tokens of a piece after earlier ones
abbrev pub piece_tokens : List Piece → Piece → List IndexToken
piece_tokens earlier p = piece_tokens_from p.is_text (begin_after earlier p) p

-- the tokens of pieces after earlier ones
abbrev pub tokens_after : List Piece → List Piece → List IndexToken
tokens_after earlier [] = []
tokens_after earlier (p ∷ ps) = piece_tokens earlier p ++ tokens_after (earlier ++ p ∷ []) ps

-- a text whose words have keys with a prefix
abbrev pub text_at : ℕ → ℕ → List ℕ → List Word → Piece
text_at doc field prefix ws = record { doc = doc; field = field; path = None; prefix = prefix; is_text = true; words = ws }

-- a value under its key
abbrev pub value_at : ℕ → ℕ → List ℕ → Piece
value_at doc field key = record { doc = doc; field = field; path = None; prefix = key; is_text = false; words = [] }

-- a leaf of a JSON value, which has a path
abbrev pub at_path : List ℕ → Piece → Piece
at_path path p = record p { path = Some path }

-- the piece of a leaf of a JSON value, given an analyzer of texts
abbrev pub leaf_pieces : (List ℕ → List Word) → ℕ → ℕ → List ℕ × Leaf → List Piece
leaf_pieces analyze doc field (path, text_leaf t) = at_path path (text_at doc field (json_key path (text_key [])) (analyze t)) ∷ []
leaf_pieces analyze doc field (path, value_leaf t n) = at_path path (value_at doc field (json_key path (typed_key t n))) ∷ []
leaf_pieces analyze doc field (path, unsupported kind) = []

-- the pieces of a call
abbrev pub content_pieces : (List ℕ → List Word) → Call → Content → List Piece
content_pieces analyze c (text t) = text_at c.doc c.field [] (analyze t) ∷ []
content_pieces analyze c (words ws) = text_at c.doc c.field [] ws ∷ []
content_pieces analyze c (value key) = value_at c.doc c.field key ∷ []
content_pieces analyze c (leaves ls) = flat_map (leaf_pieces analyze c.doc c.field) ls

-- the pieces of a call: texts and values, each with its prefix
abbrev pub call_pieces : (List ℕ → List Word) → Call → List Piece
call_pieces analyze c = content_pieces analyze c c.content

-- the pieces of calls, one after the other
abbrev pub pieces_of : (List ℕ → List Word) → List Call → List Piece
pieces_of analyze calls = flat_map (call_pieces analyze) calls

-- the tokens of a list of calls
abbrev pub tokens_of : (List ℕ → List Word) → List Call → List IndexToken
tokens_of analyze calls = tokens_after [] (pieces_of analyze calls)

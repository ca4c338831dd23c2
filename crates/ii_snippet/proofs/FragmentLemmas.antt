-- Laws of pieces of texts.
use Rattle.std.proofs.Common.{◌≡◌, ◌∙◌, ℕ, ◌+◌, ◌<◌, Bool, true, false, List, [], ◌∷◌, ◌++◌, ap, append_assoc, drop, get_or, length, refl, sym}
use Rattle.std.specs.Prelude.{if◌then◌else◌}
use Rattle.std.proofs.lemmas.List.{append-nil}
use Rattle.ii_snippet.specs.declared.windows.SnippetToken.{SnippetToken}
use Rattle.ii_snippet.specs.Fragments.{Piece, cut, pieces_between, wanted_tokens}
use Rattle.ii_snippet.specs.Windows.{is_unwanted}
use Rattle.ii_snippet.proofs.WindowLemmas.{from_place}

-- a token and what is before it were added, if it is wanted
pub token_added : (old new : List Piece) (text : List ℕ) (from next to : ℕ) (t : SnippetToken) (rest : List SnippetToken)
    → new ≡ old ++ (if is_unwanted t then [] else record { text = cut text from t.offset_from; is_wanted = false } ∷ record { text = cut text t.offset_from t.offset_to; is_wanted = true } ∷ [])
    → next ≡ (if is_unwanted t then from else t.offset_to)
    → new ++ pieces_between text next to (wanted_tokens rest) ≡ old ++ pieces_between text from to (wanted_tokens (t ∷ rest))
token_added old new text from next to t rest added is = by_case (is_unwanted t) refl added is
  where
    before : Piece
    before = record { text = cut text from t.offset_from; is_wanted = false }

    itself : Piece
    itself = record { text = cut text t.offset_from t.offset_to; is_wanted = true }

    by_case : (b : Bool) → is_unwanted t ≡ b → new ≡ old ++ (if b then [] else before ∷ itself ∷ []) → next ≡ (if b then from else t.offset_to) → new ++ pieces_between text next to (wanted_tokens rest) ≡ old ++ pieces_between text from to (wanted_tokens (t ∷ rest))
    by_case true unwanted same there = rw (unwanted, same, there, append-nil old) refl
    by_case false wanted more there = rw (wanted, more, there, append_assoc old (before ∷ itself ∷ [])) refl

-- the next token was added
pub next_added : (old new : List Piece) (text : List ℕ) (from next to : ℕ) (ts : List SnippetToken) (place : ℕ) (d : SnippetToken) (all : List Piece) → place < length ts
    → new ≡ old ++ (if is_unwanted (get_or ts place d) then [] else record { text = cut text from (get_or ts place d).offset_from; is_wanted = false } ∷ record { text = cut text (get_or ts place d).offset_from (get_or ts place d).offset_to; is_wanted = true } ∷ [])
    → next ≡ (if is_unwanted (get_or ts place d) then from else (get_or ts place d).offset_to)
    → old ++ pieces_between text from to (wanted_tokens (drop place ts)) ≡ all
    → new ++ pieces_between text next to (wanted_tokens (drop (place + 1) ts)) ≡ all
next_added old new text from next to ts place d all within added is before =
    token_added old new text from next to (get_or ts place d) (drop (place + 1) ts) added is
    ∙ ap (λ (us : List SnippetToken). old ++ pieces_between text from to (wanted_tokens us)) (sym (from_place ts place d within))
    ∙ before

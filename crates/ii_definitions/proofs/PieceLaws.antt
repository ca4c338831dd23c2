-- The tokens of pieces one after the other.
use Rattle.std.proofs.Common.{◌≡◌, List, [], ◌∷◌, ◌++◌, sym, ap, ◌∙◌, append_assoc, append-nil}
use Rattle.ii_definitions.specs.Tokens.{IndexToken, Piece, piece_tokens, tokens_after}

-- the tokens of pieces in two parts
pub tokens_after-append : (earlier first second : List Piece) → tokens_after earlier (first ++ second) ≡ tokens_after earlier first ++ tokens_after (earlier ++ first) second
tokens_after-append earlier [] second = ap (λ (ps : List Piece). tokens_after ps second) (sym (append-nil earlier))
tokens_after-append earlier (p ∷ ps) second =
    let rest = tokens_after-append (earlier ++ p ∷ []) ps second in
    ap (λ (ts : List IndexToken). piece_tokens earlier p ++ ts) (rest ∙ ap (λ (qs : List Piece). tokens_after (earlier ++ p ∷ []) ps ++ tokens_after qs second) (append_assoc earlier (p ∷ []) ps))
    ∙ sym (append_assoc (piece_tokens earlier p) (tokens_after (earlier ++ p ∷ []) ps) (tokens_after (earlier ++ p ∷ ps) second))

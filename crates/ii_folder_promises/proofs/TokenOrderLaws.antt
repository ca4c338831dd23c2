-- The tokens of calls are in the order of their documents.
use Rattle.std.proofs.Common.{◌≡◌, ℕ, suc, ◌<◌, ◌≤◌, Bool, true, false, List, [], ◌∷◌, ◌++◌, get_or, length, map, refl, subst, sym, arith}
use Rattle.std.specs.List.{AllByRecursion, flat_map}
use Rattle.std.specs.List.Sorted.{IsNonDecreasingBy}
use Rattle.std.proofs.lemmas.List.Concat.{flat_map-cons}
use Rattle.ii_base.specs.Json.{Leaf, text_leaf, unsupported, value_leaf}
use Rattle.ii_base.specs.Schema.{SchemaEntry}
use Rattle.ii_base.specs.Words.{Word}
use Rattle.ii_definitions.specs.IndexCalls.{call_of, doc_of}
use Rattle.ii_definitions.specs.Tokens.{Content, IndexToken, Piece, begin_after, call_pieces, content_pieces, kept_words, leaf_pieces, leaves, piece_tokens, piece_tokens_from, pieces_of, text, tokens_after, tokens_of, value, word_token, words}
use Rattle.ii_definitions.specs.declared.index_call.IndexCall.{IndexCall}
use Rattle.ii_definitions.proofs.ListLaws.{all_both}
use Rattle.ii_definitions.proofs.PieceLaws.{tokens_after-append}
use Rattle.ii_segments.proofs.OrderLemmas.{Ascend, order_from_ascend}

module _ (doc : ℕ) where
  abbrev IsPieceOf : Piece → Type 0
  IsPieceOf p = p.doc ≡ doc

  abbrev IsTokenOf : IndexToken → Type 0
  IsTokenOf t = t.doc ≡ doc

  leaf_of : (analyze : List ℕ → List Word) (field : ℕ) (l : List ℕ × Leaf) → AllByRecursion IsPieceOf (leaf_pieces analyze doc field l)
  leaf_of analyze field (path, text_leaf t) = (refl, tt)
  leaf_of analyze field (path, value_leaf t n) = (refl, tt)
  leaf_of analyze field (path, unsupported kind) = tt

  leaves_of : (analyze : List ℕ → List Word) (field : ℕ) (ls : List (List ℕ × Leaf)) → AllByRecursion IsPieceOf (flat_map (leaf_pieces analyze doc field) ls)
  leaves_of analyze field [] = tt
  leaves_of analyze field (l ∷ ls) =
      subst (AllByRecursion IsPieceOf) (sym (flat_map-cons (leaf_pieces analyze doc field) l ls))
      (all_both IsPieceOf (leaf_pieces analyze doc field l) (flat_map (leaf_pieces analyze doc field) ls) (leaf_of analyze field l) (leaves_of analyze field ls))

  content_of : (analyze : List ℕ → List Word) (field : ℕ) (c : Content) → AllByRecursion IsPieceOf (content_pieces analyze (record { doc = doc; field = field; content = c }) c)
  content_of analyze field (text t) = (refl, tt)
  content_of analyze field (words ws) = (refl, tt)
  content_of analyze field (value key) = (refl, tt)
  content_of analyze field (leaves ls) = leaves_of analyze field ls

  word_tokens_of : (p : Piece) (begin : ℕ) (ws : List Word) → IsPieceOf p → AllByRecursion IsTokenOf (map (word_token p begin) ws)
  word_tokens_of p begin [] of = tt
  word_tokens_of p begin (w ∷ ws) of = (of, word_tokens_of p begin ws of)

  piece_tokens_of : (p : Piece) (begin : ℕ) (is_text : Bool) → IsPieceOf p → AllByRecursion IsTokenOf (piece_tokens_from is_text begin p)
  piece_tokens_of p begin true of = word_tokens_of p begin (kept_words p.words) of
  piece_tokens_of p begin false of = (of, tt)

  -- the tokens of pieces of a document are of it
  pieces_tokens_of : (earlier ps : List Piece) → AllByRecursion IsPieceOf ps → AllByRecursion IsTokenOf (tokens_after earlier ps)
  pieces_tokens_of earlier [] all = tt
  pieces_tokens_of earlier (p ∷ ps) all =
      all_both IsTokenOf (piece_tokens earlier p) (tokens_after (earlier ++ p ∷ []) ps) (piece_tokens_of p (begin_after earlier p) p.is_text all.0) (pieces_tokens_of (earlier ++ p ∷ []) ps all.1)

  -- tokens of a document in front of later ones
  one_in_front : (least : ℕ) (xs ys : List IndexToken) → AllByRecursion IsTokenOf xs → least ≤ doc → Ascend doc ys → Ascend least (xs ++ ys)
  one_in_front least [] [] all within up = tt
  one_in_front least [] (y ∷ ys) all within up = let first = up.0 in (omega (arith, within, first), up.1)
  one_in_front least (x ∷ xs) ys all within up =
      let own = all.0 in
      (omega (arith, within, own), one_in_front x.doc xs ys all.1 (omega (arith, own)) up)

module _ (schema : List SchemaEntry) (analyze : List ℕ → List Word) where
  -- the calls that are left are in order
  calls_ascend : (earlier : List Piece) (least : ℕ) (cs : List IndexCall) → ((d : IndexCall) → 0 < length cs → least ≤ doc_of (get_or cs 0 d)) → IsNonDecreasingBy doc_of cs
      → Ascend least (tokens_after earlier (pieces_of analyze (map (call_of schema) cs)))
  calls_ascend earlier least [] low ordered = tt
  calls_ascend earlier least (c ∷ cs) low ordered =
      let call = call_of schema c in
      let first = call_pieces analyze call in
      let rest = pieces_of analyze (map (call_of schema) cs) in
      subst (λ (ps : List Piece). Ascend least (tokens_after earlier ps)) (sym (flat_map-cons (call_pieces analyze) call (map (call_of schema) cs)))
      (subst (Ascend least) (sym (tokens_after-append earlier first rest))
      (one_in_front (doc_of c) least (tokens_after earlier first) (tokens_after (earlier ++ first) rest) (pieces_tokens_of (doc_of c) earlier first (content_of (doc_of c) analyze call.field call.content)) (low c (omega arith))
      (calls_ascend (earlier ++ first) (doc_of c) cs (λ d inside. ordered 0 1 d (omega arith) (omega (arith, inside))) (λ i j d within inside. ordered (suc i) (suc j) d (omega (arith, within)) (omega (arith, inside))))))

  pub tokens_ordered : (cs : List IndexCall) → IsNonDecreasingBy doc_of cs → IsNonDecreasingBy (λ (t : IndexToken). t.doc) (tokens_of analyze (map (call_of schema) cs))
  tokens_ordered cs ordered = order_from_ascend 0 (tokens_of analyze (map (call_of schema) cs)) (calls_ascend [] 0 cs (λ d inside. omega arith) ordered)

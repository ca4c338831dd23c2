-- Texts whose tokens are in order, and single values, are taken.
use Rattle.std.proofs.Common.{◌≡◌, ℕ, ◌≤◌, ◌<◌, List, [], ◌∷◌, ◌++◌, length, None, refl, sym, ap, ◌∙◌, subst, arith, inl, inr, length-append, append-nil, append_assoc}
use Rattle.std.specs.List.{AllByRecursion, sum_by}
use Rattle.std.proofs.lemmas.Grind.{flat_map-append}
use Rattle.std.proofs.lemmas.List.Concat.{flat_map-cons}
use Rattle.std.proofs.lemmas.List.Sums.{sum_by-append}
use Rattle.ii_base.specs.declared.schema.index_record_option.IndexRecordOption.{IndexRecordOption}
use Rattle.ii_base.specs.Words.{Word}
use Rattle.ii_definitions.proofs.PieceLaws.{tokens_after-append}
use Rattle.ii_definitions.specs.Tokens.{Call, Content, IndexToken, Piece, call_pieces, content_pieces, end_after, leaves, pieces_of, text, text_at, tokens_after, tokens_of, value, value_at, words}
use Rattle.ii_recorder.specs.Recorded.{u32_max}
use Rattle.ii_promises.specs.OrderlyCalls.{IsOrderly, num_positions_of}
use Rattle.ii_indexing.specs.Refusals.{call_fault, calls_fault, content_fault, piece_fault, pieces_fault}
use Rattle.ii_promises.proofs.TextFaults.{IsOrderlyPiece, Stand, piece_taken, spans_next, stand_first, stand_next}

module _ (analyze : List ℕ → List Word) where
  -- A call of one piece, which is refused as its piece is.
  record HasOnePiece (c : Call) : Type 0 where
    pub piece : Piece
    pub orderly : IsOrderlyPiece piece
    pub pieces : call_pieces analyze c ≡ piece ∷ []
    pub fault : (option : IndexRecordOption) (earlier : List Piece) → call_fault analyze option earlier c ≡ pieces_fault option earlier (piece ∷ [])

  one_piece : (c : Call) → IsOrderly analyze c.content → HasOnePiece c
  one_piece c orderly = by c.content refl orderly
    where
      by : (k : Content) → c.content ≡ k → IsOrderly analyze k → HasOnePiece c
      by (text t) is o = record {
        piece = text_at c.doc c.field [] (analyze t);
        orderly = record { path = refl; kind = inl (record { is_text = refl; prefix = refl; ordered = o }) };
        pieces = ap (content_pieces analyze c) is;
        fault = λ option earlier. ap (content_fault analyze option earlier c) is;
      }
      by (words ws) is o = record {
        piece = text_at c.doc c.field [] ws;
        orderly = record { path = refl; kind = inl (record { is_text = refl; prefix = refl; ordered = o }) };
        pieces = ap (content_pieces analyze c) is;
        fault = λ option earlier. ap (content_fault analyze option earlier c) is;
      }
      by (value key) is o = record {
        piece = value_at c.doc c.field key;
        orderly = record { path = refl; kind = inr (record { is_value = refl; short = o }) };
        pieces = ap (content_pieces analyze c) is;
        fault = λ option earlier. ap (content_fault analyze option earlier c) is;
      }
      by (leaves ls) is o = absurd o

  pieces_next : (earlier : List Call) (c : Call) (one : HasOnePiece c) → pieces_of analyze (earlier ++ c ∷ []) ≡ pieces_of analyze earlier ++ one.piece ∷ []
  pieces_next earlier c one =
      flat_map-append (call_pieces analyze) earlier (c ∷ [])
      ∙ ap (λ (ps : List Piece). pieces_of analyze earlier ++ ps) (flat_map-cons (call_pieces analyze) c [] ∙ append-nil (call_pieces analyze c) ∙ one.pieces)

  -- what the first calls take is no more than what all take
  first_positions : (first later : List Call) → num_positions_of analyze first ≤ num_positions_of analyze (first ++ later)
  first_positions first later =
      omega (
        arith,
        ap (λ (ps : List Piece). sum_by (λ (p : Piece). end_after 0 p.words) ps) (flat_map-append (call_pieces analyze) first later),
        sum_by-append (λ (p : Piece). end_after 0 p.words) (pieces_of analyze first) (pieces_of analyze later),
      )

  first_tokens : (first later : List Call) → length (tokens_of analyze first) ≤ length (tokens_of analyze (first ++ later))
  first_tokens first later =
      let ps = pieces_of analyze first in
      let qs = pieces_of analyze later in
      omega (
        arith,
        ap (λ (rs : List Piece). length (tokens_after [] rs)) (flat_map-append (call_pieces analyze) first later),
        ap length (tokens_after-append [] ps qs),
        length-append (tokens_after [] ps) (tokens_after ps qs),
      )

  module _ (option : ℕ → IndexRecordOption) where
    taken_after : (earlier cs : List Call) → Stand (pieces_of analyze earlier) → AllByRecursion (λ (c : Call). IsOrderly analyze c.content) cs → num_positions_of analyze (earlier ++ cs) < u32_max
        → length (tokens_of analyze (earlier ++ cs)) < u32_max → (calls_fault analyze option earlier cs ≡ None) × Stand (pieces_of analyze (earlier ++ cs))
    taken_after earlier [] stand all few_positions few = (refl, subst (λ (e : List Call). Stand (pieces_of analyze e)) (sym (append-nil earlier)) stand)
    taken_after earlier (c ∷ cs) stand all few_positions few =
        let one = one_piece c all.0 in
        let ps = pieces_of analyze earlier in
        let next = pieces_next earlier c one in
        let assoc = append_assoc earlier (c ∷ []) cs in
        let whole_positions : num_positions_of analyze ((earlier ++ c ∷ []) ++ cs) < u32_max = subst (λ (e : List Call). num_positions_of analyze e < u32_max) (sym assoc) few_positions in
        let whole : length (tokens_of analyze ((earlier ++ c ∷ []) ++ cs)) < u32_max = subst (λ (e : List Call). length (tokens_of analyze e) < u32_max) (sym assoc) few in
        let stand_more = subst Stand (sym next) (stand_next ps one.piece stand one.orderly) in
        let later = taken_after (earlier ++ c ∷ []) cs stand_more all.1 whole_positions whole in
        let here : piece_fault (option c.field) ps one.piece ≡ None =
        piece_taken ps one.piece stand one.orderly (option c.field)
        (omega (arith, whole_positions, first_positions (earlier ++ c ∷ []) cs, ap (λ (qs : List Piece). sum_by (λ (p : Piece). end_after 0 p.words) qs) next, spans_next ps one.piece))
        (omega (arith, whole, first_tokens (earlier ++ c ∷ []) cs, ap (λ (qs : List Piece). length (tokens_after [] qs)) next)) in
        let taken : call_fault analyze (option c.field) ps c ≡ None = one.fault (option c.field) ps ∙ rw here refl in
        (rw taken later.0, subst (λ (e : List Call). Stand (pieces_of analyze e)) assoc later.1)

  -- no such call is refused, and its tokens have short keys
  pub orderly_calls_are_taken : (option : ℕ → IndexRecordOption) (cs : List Call) → AllByRecursion (λ (c : Call). IsOrderly analyze c.content) cs → num_positions_of analyze cs < u32_max → length (tokens_of analyze cs) < u32_max
      → (calls_fault analyze option [] cs ≡ None) × AllByRecursion (λ (t : IndexToken). length t.key ≤ 1000000) (tokens_of analyze cs)
  orderly_calls_are_taken option cs all few_positions few = let taken = taken_after option [] cs stand_first all few_positions few in (taken.0, taken.1.keys)

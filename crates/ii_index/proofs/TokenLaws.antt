-- The tokens of documents are those of a segment.
use Rattle.std.proofs.Common.{◌≡◌, ◌∙◌, ℕ, zero, suc, ◌<◌, ◌≤◌, Bool, true, false, List, [], ◌∷◌, ◌++◌, Option, None, Some, append-nil, get_or, length, map, refl, subst, sym, arith}
use Rattle.std.specs.Prelude.{IfSome, slice_get, unwrap_or}
use Rattle.std.specs.List.{AllByRecursion, flat_map}
use Rattle.std.specs.List.Sorted.{IsNonDecreasingBy}
use Rattle.std.specs.Option.{option_map}
use Rattle.std.proofs.lemmas.List.Concat.{flat_map-cons}
use Rattle.std.proofs.lemmas.List.Sorted.{IsNonDecreasingBy-short}
use Rattle.ii_base.specs.Json.{Leaf, text_leaf, unsupported, value_leaf}
use Rattle.ii_base.specs.Schema.{SchemaEntry}
use Rattle.ii_base.specs.Words.{Word}
use Rattle.ii_base.specs.declared.schema.value_type.ValueType.TheVariants.{Str}
use Rattle.ii_damage.specs.Fits.{AllFit, Fits}
use Rattle.ii_damage.proofs.CallsFit.{calls_fit}
use Rattle.ii_definitions.specs.IndexCalls.{MayAllBeIndexed, MayBeIndexed, call_of, doc_of, field_of}
use Rattle.ii_definitions.specs.JsonKeys.{is_key_of_text}
use Rattle.ii_definitions.specs.Tokens.{Call, Content, IndexToken, Piece, begin_after, call_pieces, content_pieces, kept_words, leaf_pieces, leaves, piece_tokens, piece_tokens_from, text, tokens_after, value, word_token, words}
use Rattle.ii_definitions.specs.declared.index_call.IndexCall.{IndexCall}
use Rattle.ii_definitions.proofs.ListLaws.{all_after, all_before, all_both, all_weaker}
use Rattle.ii_definitions.proofs.PieceLaws.{tokens_after-append}
use Rattle.ii_segments.specs.Segments.{AreSegmentTokens, is_key_of_text_in}
use Rattle.ii_segments.proofs.OrderLemmas.{Ascend, order_from_ascend}
use Rattle.nequllpa_indexing.specs.FieldTokens.{pieces_by, tokens_by}

-- ---- the tokens of one call are of its document and field
module _ (doc field : ℕ) where
  -- A piece is of a document and a field.
  record IsPieceOf (p : Piece) : Type 0 where
    doc_is : p.doc ≡ doc
    field_is : p.field ≡ field

  -- A token is of a document and a field.
  record IsTokenOf (t : IndexToken) : Type 0 where
    doc_is : t.doc ≡ doc
    field_is : t.field ≡ field

  leaf_of : (analyze : List ℕ → List Word) (l : List ℕ × Leaf) → AllByRecursion IsPieceOf (leaf_pieces analyze doc field l)
  leaf_of analyze (path, text_leaf t) = (record { doc_is = refl; field_is = refl }, tt)
  leaf_of analyze (path, value_leaf t n) = (record { doc_is = refl; field_is = refl }, tt)
  leaf_of analyze (path, unsupported kind) = tt

  leaves_of : (analyze : List ℕ → List Word) (ls : List (List ℕ × Leaf)) → AllByRecursion IsPieceOf (flat_map (leaf_pieces analyze doc field) ls)
  leaves_of analyze [] = tt
  leaves_of analyze (l ∷ ls) =
      subst (AllByRecursion IsPieceOf) (sym (flat_map-cons (leaf_pieces analyze doc field) l ls))
      (all_both IsPieceOf (leaf_pieces analyze doc field l) (flat_map (leaf_pieces analyze doc field) ls) (leaf_of analyze l) (leaves_of analyze ls))

  content_of : (analyze : List ℕ → List Word) (c : Content) → AllByRecursion IsPieceOf (content_pieces analyze (record { doc = doc; field = field; content = c }) c)
  content_of analyze (text t) = (record { doc_is = refl; field_is = refl }, tt)
  content_of analyze (words ws) = (record { doc_is = refl; field_is = refl }, tt)
  content_of analyze (value key) = (record { doc_is = refl; field_is = refl }, tt)
  content_of analyze (leaves ls) = leaves_of analyze ls

  word_tokens_of : (p : Piece) (begin : ℕ) (ws : List Word) → IsPieceOf p → AllByRecursion IsTokenOf (map (word_token p begin) ws)
  word_tokens_of p begin [] of = tt
  word_tokens_of p begin (w ∷ ws) of = (record { doc_is = of.doc_is; field_is = of.field_is }, word_tokens_of p begin ws of)

  piece_tokens_of : (p : Piece) (begin : ℕ) (is_text : Bool) → IsPieceOf p → AllByRecursion IsTokenOf (piece_tokens_from is_text begin p)
  piece_tokens_of p begin true of = word_tokens_of p begin (kept_words p.words) of
  piece_tokens_of p begin false of = (record { doc_is = of.doc_is; field_is = of.field_is }, tt)

  pieces_tokens_of : (earlier ps : List Piece) → AllByRecursion IsPieceOf ps → AllByRecursion IsTokenOf (tokens_after earlier ps)
  pieces_tokens_of earlier [] all = tt
  pieces_tokens_of earlier (p ∷ ps) all =
      all_both IsTokenOf (piece_tokens earlier p) (tokens_after (earlier ++ p ∷ []) ps) (piece_tokens_of p (begin_after earlier p) p.is_text all.0) (pieces_tokens_of (earlier ++ p ∷ []) ps all.1)

  -- tokens of a document before later ones
  one_in_front : (least : ℕ) (xs ys : List IndexToken) → AllByRecursion IsTokenOf xs → least ≤ doc → Ascend doc ys → Ascend least (xs ++ ys)
  one_in_front least [] [] all within up = tt
  one_in_front least [] (y ∷ ys) all within up = let first = up.0 in (omega (arith, within, first), up.1)
  one_in_front least (x ∷ xs) ys all within up =
      let own = all.0.doc_is in
      (omega (arith, within, own), one_in_front x.doc xs ys all.1 (omega (arith, own)) up)

-- ---- the tokens of all calls
module _ (entries : List SchemaEntry) (num_docs : ℕ) (analyze : ℕ → List ℕ → List Word) where
  abbrev pieces_in : Call → List Piece
  pieces_in c = call_pieces (analyze c.field) c

  -- one call before others
  one_more : (P : List IndexToken → Type 0) (earlier : List Piece) (c : IndexCall) (cs : List IndexCall)
      → P (tokens_after earlier (pieces_in (call_of entries c)) ++ tokens_after (earlier ++ pieces_in (call_of entries c)) (pieces_by analyze (map (call_of entries) cs)))
      → P (tokens_after earlier (pieces_by analyze (map (call_of entries) (c ∷ cs))))
  one_more P earlier c cs holds =
      let call = call_of entries c in
      let rest = pieces_by analyze (map (call_of entries) cs) in
      subst (λ (ps : List Piece). P (tokens_after earlier ps)) (sym (flat_map-cons pieces_in call (map (call_of entries) cs)))
      (subst P (sym (tokens_after-append earlier (pieces_in call) rest)) holds)

  own_tokens : (earlier : List Piece) (c : IndexCall) → AllByRecursion (IsTokenOf (doc_of c) (field_of c)) (tokens_after earlier (pieces_in (call_of entries c)))
  own_tokens earlier c =
      let call = call_of entries c in
      pieces_tokens_of (doc_of c) (field_of c) earlier (pieces_in call) (content_of (doc_of c) (field_of c) (analyze call.field) call.content)

  -- the calls that are left are in order
  calls_ascend : (earlier : List Piece) (least : ℕ) (cs : List IndexCall) → ((d : IndexCall) → 0 < length cs → least ≤ doc_of (get_or cs 0 d)) → IsNonDecreasingBy doc_of cs
      → Ascend least (tokens_after earlier (pieces_by analyze (map (call_of entries) cs)))
  calls_ascend earlier least [] low ordered = tt
  calls_ascend earlier least (c ∷ cs) low ordered =
      let first = pieces_in (call_of entries c) in
      one_more (Ascend least) earlier c cs
      (one_in_front (doc_of c) (field_of c) least (tokens_after earlier first) (tokens_after (earlier ++ first) (pieces_by analyze (map (call_of entries) cs))) (own_tokens earlier c) (low c (omega arith))
      (calls_ascend (earlier ++ first) (doc_of c) cs (λ d inside. ordered 0 1 d (omega arith) (omega (arith, inside))) (λ i j d within inside. ordered (suc i) (suc j) d (omega (arith, within)) (omega (arith, inside)))))

  -- A token is in a field of the schema.
  abbrev IsKnown : IndexToken → Type 0
  IsKnown t = t.field < length entries

  found_within : (es : List SchemaEntry) (i : ℕ) (e : SchemaEntry) → slice_get es i ≡ Some e → i < length es
  found_within [] i e found = absurd (cc)
  found_within (x ∷ xs) zero e found = omega arith
  found_within (x ∷ xs) (suc i) e found = omega (arith, found_within xs i e found)

  calls_known : (earlier : List Piece) (cs : List IndexCall) → AllByRecursion (MayBeIndexed entries num_docs) cs → AllByRecursion IsKnown (tokens_after earlier (pieces_by analyze (map (call_of entries) cs)))
  calls_known earlier [] may = tt
  calls_known earlier (c ∷ cs) may =
      let first = pieces_in (call_of entries c) in
      let takes = may.0.takes in
      let within = found_within entries (field_of c) takes.entry takes.found in
      one_more (AllByRecursion IsKnown) earlier c cs
      (all_both IsKnown (tokens_after earlier first) (tokens_after (earlier ++ first) (pieces_by analyze (map (call_of entries) cs)))
      (all_weaker (IsTokenOf (doc_of c) (field_of c)) IsKnown (tokens_after earlier first) (λ t of. omega (arith, of.field_is, within)) (own_tokens earlier c))
      (calls_known (earlier ++ first) cs may.1))

  -- a token fits at any position
  words_fit : (p : Piece) (begin other : ℕ) (ws : List Word) → AllFit entries num_docs (map (word_token p begin) ws) → AllFit entries num_docs (map (word_token p other) ws)
  words_fit p begin other [] fit = tt
  words_fit p begin other (w ∷ ws) fit = (record { below = fit.0.below; kind = fit.0.kind }, words_fit p begin other ws fit.1)

  piece_fits : (p : Piece) (begin other : ℕ) (is_text : Bool) → AllFit entries num_docs (piece_tokens_from is_text begin p) → AllFit entries num_docs (piece_tokens_from is_text other p)
  piece_fits p begin other true fit = words_fit p begin other (kept_words p.words) fit
  piece_fits p begin other false fit = fit

  -- so pieces fit after any others
  pieces_fit : (earlier others ps : List Piece) → AllFit entries num_docs (tokens_after earlier ps) → AllFit entries num_docs (tokens_after others ps)
  pieces_fit earlier others [] fit = tt
  pieces_fit earlier others (p ∷ ps) fit =
      let rest = tokens_after (earlier ++ p ∷ []) ps in
      all_both (Fits entries num_docs) (piece_tokens others p) (tokens_after (others ++ p ∷ []) ps)
      (piece_fits p (begin_after earlier p) (begin_after others p) p.is_text (all_before (Fits entries num_docs) (piece_tokens earlier p) rest fit))
      (pieces_fit (earlier ++ p ∷ []) (others ++ p ∷ []) ps (all_after (Fits entries num_docs) (piece_tokens earlier p) rest fit))

  call_fits : (c : IndexCall) → MayBeIndexed entries num_docs c → AllFit entries num_docs (tokens_after [] (pieces_in (call_of entries c)))
  call_fits c may =
      let words = analyze (field_of c) in
      let alone : MayAllBeIndexed entries num_docs (c ∷ []) = record { each = (may, tt); ordered = IsNonDecreasingBy-short doc_of (c ∷ []) (omega arith) } in
      subst (λ (ps : List Piece). AllFit entries num_docs (tokens_after [] ps)) (flat_map-cons (call_pieces words) (call_of entries c) [] ∙ append-nil (call_pieces words (call_of entries c))) (calls_fit entries num_docs words (c ∷ []) alone)

  calls_fit_after : (earlier : List Piece) (cs : List IndexCall) → AllByRecursion (MayBeIndexed entries num_docs) cs → AllFit entries num_docs (tokens_after earlier (pieces_by analyze (map (call_of entries) cs)))
  calls_fit_after earlier [] may = tt
  calls_fit_after earlier (c ∷ cs) may =
      let first = pieces_in (call_of entries c) in
      one_more (AllFit entries num_docs) earlier c cs
      (all_both (Fits entries num_docs) (tokens_after earlier first) (tokens_after (earlier ++ first) (pieces_by analyze (map (call_of entries) cs)))
      (pieces_fit [] earlier first (call_fits c may.0)) (calls_fit_after (earlier ++ first) cs may.1))

  -- whether a key is that of a text, by the entry of its field
  typed_by : (t : IndexToken) (o : Option SchemaEntry) → IfSome o (λ (e : SchemaEntry). t.of_text ≡ is_key_of_text e.value_type t.key) → (o ≡ None → t.field < 0)
      → t.of_text ≡ is_key_of_text (unwrap_or (option_map (λ (e : SchemaEntry). e.value_type) o) Str) t.key
  typed_by t None kind missing = absurd (omega (arith, missing refl))
  typed_by t (Some e) kind missing = kind

  missing_entry : (es : List SchemaEntry) (i : ℕ) → i < length es → slice_get es i ≡ None → i < 0
  missing_entry [] i within none = within
  missing_entry (e ∷ es) zero within none = absurd (cc)
  missing_entry (e ∷ es) (suc i) within none = absurd (omega (arith, missing_entry es i (omega (arith, within)) none))

  all_typed : (ts : List IndexToken) → AllFit entries num_docs ts → AllByRecursion IsKnown ts → AllByRecursion (λ (t : IndexToken). t.of_text ≡ is_key_of_text_in entries t.field t.key) ts
  all_typed [] fit known = tt
  all_typed (t ∷ ts) fit known = (typed_by t (slice_get entries t.field) fit.0.kind (missing_entry entries t.field known.0), all_typed ts fit.1 known.1)

  -- the tokens of calls that may be made are those of a segment of as many documents
  pub are_segment_tokens : (alive : List Bool) (cs : List IndexCall) → length alive ≡ num_docs → MayAllBeIndexed entries num_docs cs → AreSegmentTokens entries (record { alive = alive; tokens = tokens_by analyze (map (call_of entries) cs) })
  are_segment_tokens alive cs many may =
      let fit = calls_fit_after [] cs may.each in
      let known = calls_known [] cs may.each in
      let ts = tokens_by analyze (map (call_of entries) cs) in
      record {
        ordered = order_from_ascend 0 ts (calls_ascend [] 0 cs (λ d inside. omega arith) may.ordered);
        below = all_weaker (Fits entries num_docs) (λ (t : IndexToken). t.doc < length alive) ts (λ t fits. omega (arith, fits.below, many)) fit;
        known = known;
        typed = all_typed ts fit known;
      }

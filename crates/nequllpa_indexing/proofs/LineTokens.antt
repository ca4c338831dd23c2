-- The tokens of a document that is added to others.
use Rattle.std.proofs.Common.{◌≡◌, ◌∙◌, ℕ, zero, suc, ◌+◌, ◌<◌, ◌==◌, ◌&&◌, Bool, true, false, List, [], ◌∷◌, ◌++◌, ap, append-nil, append_assoc, arith, bytes_eq, filter, length, map, refl, subst, sym}
use Rattle.std.specs.List.{AllByRecursion, flat_map, fold}
use Rattle.std.proofs.lemmas.Bool.{eq-eqb, eqb-false, eqb-true, ne_eqb}
use Rattle.std.proofs.lemmas.Grind.{flat_map-append}
use Rattle.std.proofs.lemmas.List.{map-append}
use Rattle.ii_base.specs.Json.{Leaf, text_leaf, unsupported, value_leaf}
use Rattle.ii_base.specs.Words.{Word}
use Rattle.ii_definitions.specs.Tokens.{Call, Content, IndexToken, Piece, begin_after, call_pieces, content_pieces, end_after, is_same_group, kept_words, leaf_pieces, leaves, piece_tokens, piece_tokens_from, text, tokens_after, value, word_token, words}
use Rattle.ii_definitions.proofs.ListLaws.{all_both}
use Rattle.ii_definitions.proofs.PieceLaws.{tokens_after-append}
use Rattle.ii_documents.proofs.NumberLaws.{of_doc}
use Rattle.ii_segments.proofs.MergeLaws.{shift}
use Rattle.nequllpa_indexing.specs.FieldTokens.{pieces_by, tokens_by}
use Rattle.nequllpa_indexing.proofs.CountLaws.{IsPieceOf, content_of}

-- ---- the pieces of a document, by its number
-- a piece of a document with another number, and one of a document that comes after n others
abbrev piece_of_doc : ℕ → Piece → Piece
piece_of_doc n p = record p { doc = n }

abbrev piece_after : ℕ → Piece → Piece
piece_after n p = record p { doc = n + p.doc }

module _ (by : List ℕ → List Word) (n doc field : ℕ) where
  of_leaf : (l : List ℕ × Leaf) → leaf_pieces by n field l ≡ map (piece_of_doc n) (leaf_pieces by doc field l)
  of_leaf (path, text_leaf t) = refl
  of_leaf (path, value_leaf t m) = refl
  of_leaf (path, unsupported kind) = refl

  of_leaves : (ls : List (List ℕ × Leaf)) → flat_map (leaf_pieces by n field) ls ≡ map (piece_of_doc n) (flat_map (leaf_pieces by doc field) ls)
  of_leaves [] = refl
  of_leaves (l ∷ ls) = rw (of_leaf l, of_leaves ls) (sym (map-append (piece_of_doc n) (leaf_pieces by doc field l) (flat_map (leaf_pieces by doc field) ls)))

  of_content : (c : Content) → content_pieces by (record { doc = n; field = field; content = c }) c ≡ map (piece_of_doc n) (content_pieces by (record { doc = doc; field = field; content = c }) c)
  of_content (text t) = refl
  of_content (words ws) = refl
  of_content (value key) = refl
  of_content (leaves ls) = of_leaves ls

module _ (analyze : ℕ → List ℕ → List Word) where
  of_calls : (n : ℕ) (cs : List Call) → pieces_by analyze (map (of_doc n) cs) ≡ map (piece_of_doc n) (pieces_by analyze cs)
  of_calls n [] = refl
  of_calls n (c ∷ cs) =
      rw (of_content (analyze c.field) n c.doc c.field c.content, of_calls n cs) (sym (map-append (piece_of_doc n) (call_pieces (analyze c.field) c) (pieces_by analyze cs)))

  -- the documents of the pieces of calls
  pieces_hold : (P : ℕ → Type 0) (cs : List Call) → AllByRecursion (λ (c : Call). P c.doc) cs → AllByRecursion (λ (p : Piece). P p.doc) (pieces_by analyze cs)
  pieces_hold P [] all = tt
  pieces_hold P (c ∷ cs) all =
      all_both (λ (p : Piece). P p.doc) (call_pieces (analyze c.field) c) (pieces_by analyze cs) (own (call_pieces (analyze c.field) c) (content_of (analyze c.field) c.doc c.field c.content)) (pieces_hold P cs all.1)
    where
      own : (ps : List Piece) → AllByRecursion (IsPieceOf c.doc c.field) ps → AllByRecursion (λ (p : Piece). P p.doc) ps
      own [] each = tt
      own (p ∷ ps) each = (subst P (sym each.0.0) all.0, own ps each.1)

-- ---- tokens of pieces
words_hold : (P : ℕ → Type 0) (p : Piece) (begin : ℕ) (ws : List Word) → P p.doc → AllByRecursion (λ (t : IndexToken). P t.doc) (map (word_token p begin) ws)
words_hold P p begin [] own = tt
words_hold P p begin (w ∷ ws) own = (own, words_hold P p begin ws own)

piece_holds : (P : ℕ → Type 0) (p : Piece) (begin : ℕ) (is_text : Bool) → P p.doc → AllByRecursion (λ (t : IndexToken). P t.doc) (piece_tokens_from is_text begin p)
piece_holds P p begin true own = words_hold P p begin (kept_words p.words) own
piece_holds P p begin false own = (own, tt)

tokens_hold : (P : ℕ → Type 0) (earlier ps : List Piece) → AllByRecursion (λ (p : Piece). P p.doc) ps → AllByRecursion (λ (t : IndexToken). P t.doc) (tokens_after earlier ps)
tokens_hold P earlier [] all = tt
tokens_hold P earlier (p ∷ ps) all =
    all_both (λ (t : IndexToken). P t.doc) (piece_tokens earlier p) (tokens_after (earlier ++ p ∷ []) ps) (piece_holds P p (begin_after earlier p) p.is_text all.0) (tokens_hold P (earlier ++ p ∷ []) ps all.1)

-- the documents of the tokens of calls are those of the calls
pub docs_hold : (analyze : ℕ → List ℕ → List Word) (P : ℕ → Type 0) (cs : List Call) → AllByRecursion (λ (c : Call). P c.doc) cs → AllByRecursion (λ (t : IndexToken). P t.doc) (tokens_by analyze cs)
docs_hold analyze P cs all = tokens_hold P [] (pieces_by analyze cs) (pieces_hold analyze P cs all)

-- ---- tokens of documents that come after others
same_sum : (m a b : ℕ) → (m + a == m + b) ≡ (a == b)
same_sum m a b = by (a == b) refl
  where
    by : (t : Bool) → (a == b) ≡ t → (m + a == m + b) ≡ (a == b)
    by true is = eq-eqb (m + a) (m + b) (ap (λ (n : ℕ). m + n) (eqb-true a b is)) ∙ sym is
    by false is = ne_eqb (m + a) (m + b) (λ same. eqb-false a b is (omega (arith, same))) ∙ sym is

module _ (m : ℕ) where
  same_group : (p q : Piece) → is_same_group (piece_after m p) (piece_after m q) ≡ is_same_group p q
  same_group p q = ap (λ (same : Bool). q.is_text && same && (q.field == p.field) && bytes_eq q.prefix p.prefix) (same_sum m q.doc p.doc)

  same_begin : (p : Piece) (end : ℕ) (qs : List Piece) → fold (λ (e : ℕ) (q : Piece). end_after e q.words) end (filter (is_same_group (piece_after m p)) (map (piece_after m) qs)) ≡ fold (λ (e : ℕ) (q : Piece). end_after e q.words) end (filter (is_same_group p) qs)
  same_begin p end [] = refl
  same_begin p end (q ∷ qs) = by (is_same_group p q) refl (λ e. same_begin p e qs)
    where
      by : (b : Bool) → is_same_group p q ≡ b
          → ((e : ℕ) → fold (λ (x : ℕ) (r : Piece). end_after x r.words) e (filter (is_same_group (piece_after m p)) (map (piece_after m) qs)) ≡ fold (λ (x : ℕ) (r : Piece). end_after x r.words) e (filter (is_same_group p) qs))
          → fold (λ (e : ℕ) (q : Piece). end_after e q.words) end (filter (is_same_group (piece_after m p)) (piece_after m q ∷ map (piece_after m) qs)) ≡ fold (λ (e : ℕ) (q : Piece). end_after e q.words) end (filter (is_same_group p) (q ∷ qs))
      by true is later = rw (same_group p q ∙ is, is) (later (end_after end q.words))
      by false is later = rw (same_group p q ∙ is, is) (later end)

  words_after : (p : Piece) (begin : ℕ) (ws : List Word) → map (word_token (piece_after m p) begin) ws ≡ map (shift m) (map (word_token p begin) ws)
  words_after p begin [] = refl
  words_after p begin (w ∷ ws) = ap (λ (ts : List IndexToken). word_token (piece_after m p) begin w ∷ ts) (words_after p begin ws)

  from_after : (p : Piece) (begin : ℕ) (is_text : Bool) → piece_tokens_from is_text begin (piece_after m p) ≡ map (shift m) (piece_tokens_from is_text begin p)
  from_after p begin true = words_after p begin (kept_words p.words)
  from_after p begin false = refl

  piece_tokens_after : (qs : List Piece) (p : Piece) → piece_tokens (map (piece_after m) qs) (piece_after m p) ≡ map (shift m) (piece_tokens qs p)
  piece_tokens_after qs p = ap (λ (begin : ℕ). piece_tokens_from p.is_text begin (piece_after m p)) (same_begin p 0 qs) ∙ from_after p (begin_after qs p) p.is_text

  all_after : (qs ps : List Piece) → tokens_after (map (piece_after m) qs) (map (piece_after m) ps) ≡ map (shift m) (tokens_after qs ps)
  all_after qs [] = refl
  all_after qs (p ∷ ps) =
      ap (λ (ts : List IndexToken). piece_tokens (map (piece_after m) qs) (piece_after m p) ++ ts)
      (ap (λ (rs : List Piece). tokens_after rs (map (piece_after m) ps)) (sym (map-append (piece_after m) qs (p ∷ []))) ∙ all_after (qs ++ p ∷ []) ps)
      ∙ ap (λ (ts : List IndexToken). ts ++ map (shift m) (tokens_after (qs ++ p ∷ []) ps)) (piece_tokens_after qs p)
      ∙ sym (map-append (shift m) (piece_tokens qs p) (tokens_after (qs ++ p ∷ []) ps))

moved : (m d : ℕ) (ps : List Piece) → map (piece_after m) (map (piece_of_doc d) ps) ≡ map (piece_of_doc (m + d)) ps
moved m d [] = refl
moved m d (p ∷ ps) = ap (λ (qs : List Piece). piece_of_doc (m + d) p ∷ qs) (moved m d ps)

-- the tokens of a document that comes after m others are those under a number that is greater by m
pub doc_after : (analyze : ℕ → List ℕ → List Word) (m d : ℕ) (cs : List Call) → map (shift m) (tokens_by analyze (map (of_doc d) cs)) ≡ tokens_by analyze (map (of_doc (m + d)) cs)
doc_after analyze m d cs =
    sym (all_after m [] (pieces_by analyze (map (of_doc d) cs)))
    ∙ ap (λ (ps : List Piece). tokens_after [] (map (piece_after m) ps)) (of_calls analyze d cs)
    ∙ ap (tokens_after []) (moved m d (pieces_by analyze cs))
    ∙ ap (tokens_after []) (sym (of_calls analyze (m + d) cs))

-- ---- tokens of calls of a document after those of others
other_group : (p q : Piece) → q.doc < p.doc → is_same_group p q ≡ false
other_group p q less = by q.is_text
  where
    differ : (q.doc == p.doc) ≡ false
    differ = ne_eqb q.doc p.doc (λ is. omega (arith, less, is))

    by : (is_text : Bool) → (is_text && (q.doc == p.doc) && (q.field == p.field) && bytes_eq q.prefix p.prefix) ≡ false
    by true = rw differ refl
    by false = refl

no_begin : (p : Piece) (d end : ℕ) (before qs : List Piece) → p.doc ≡ d → AllByRecursion (λ (q : Piece). q.doc < d) before
    → fold (λ (e : ℕ) (q : Piece). end_after e q.words) end (filter (is_same_group p) (before ++ qs)) ≡ fold (λ (e : ℕ) (q : Piece). end_after e q.words) end (filter (is_same_group p) qs)
no_begin p d end [] qs is all = refl
no_begin p d end (b ∷ before) qs is all = rw (other_group p b (subst (λ (n : ℕ). b.doc < n) (sym is) all.0)) (no_begin p d end before qs is all.1)

alone : (d : ℕ) (before qs ps : List Piece) → AllByRecursion (λ (q : Piece). q.doc < d) before → AllByRecursion (λ (p : Piece). p.doc ≡ d) ps → tokens_after (before ++ qs) ps ≡ tokens_after qs ps
alone d before qs [] below own = refl
alone d before qs (p ∷ ps) below own =
    ap (λ (begin : ℕ). piece_tokens_from p.is_text begin p ++ tokens_after ((before ++ qs) ++ p ∷ []) ps) (no_begin p d 0 before qs own.0 below)
    ∙ ap (λ (rs : List Piece). piece_tokens qs p ++ tokens_after rs ps) (append_assoc before qs (p ∷ []))
    ∙ ap (λ (ts : List IndexToken). piece_tokens qs p ++ ts) (alone d before (qs ++ p ∷ []) ps below own.1)

own_doc : (d : ℕ) (cs : List Call) → AllByRecursion (λ (c : Call). c.doc ≡ d) (map (of_doc d) cs)
own_doc d [] = tt
own_doc d (c ∷ cs) = (refl, own_doc d cs)

-- the tokens of calls of earlier documents, and then of those of a document, are the tokens of both
pub doc_with : (analyze : ℕ → List ℕ → List Word) (d : ℕ) (calls cs : List Call) → AllByRecursion (λ (c : Call). c.doc < d) calls → tokens_by analyze (calls ++ map (of_doc d) cs) ≡ tokens_by analyze calls ++ tokens_by analyze (map (of_doc d) cs)
doc_with analyze d calls cs below =
    let before = pieces_by analyze calls in
    let more = pieces_by analyze (map (of_doc d) cs) in
    ap (tokens_after []) (flat_map-append (λ (c : Call). call_pieces (analyze c.field) c) calls (map (of_doc d) cs))
    ∙ tokens_after-append [] before more
    ∙ ap (λ (ps : List Piece). tokens_after [] before ++ tokens_after ps more) (sym (append-nil before))
    ∙ ap (λ (ts : List IndexToken). tokens_after [] before ++ ts) (alone d before [] more (pieces_hold analyze (λ (n : ℕ). n < d) calls below) (pieces_hold analyze (λ (n : ℕ). n ≡ d) (map (of_doc d) cs) (own_doc d cs)))

-- the documents of all these calls
pub docs_with : (d : ℕ) (calls cs : List Call) → AllByRecursion (λ (c : Call). c.doc < d) calls → AllByRecursion (λ (c : Call). c.doc < d + 1) (calls ++ map (of_doc d) cs)
docs_with d [] [] below = tt
docs_with d [] (c ∷ cs) below = (omega arith, docs_with d [] cs tt)
docs_with d (c ∷ calls) cs below = (omega (arith, below.0), docs_with d calls cs below.1)

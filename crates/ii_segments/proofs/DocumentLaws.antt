-- Documents indexed in several segments have the tokens of one index of all of them.
use Rattle.std.proofs.Common.{◌≡◌, ℕ, suc, ◌+◌, ◌<◌, ◌≤◌, ◌==◌, ◌&&◌, Bool, true, false, List, [], ◌∷◌, ◌++◌, bytes_eq, length, map, nat_eq, refl, sym, ap, ◌∙◌, arith, append_assoc}
use Rattle.std.specs.Prelude.{filter, replicate}
use Rattle.std.specs.List.{AllByRecursion, flat_map, fold}
use Rattle.std.proofs.lemmas.Bool.{eq-eqb, eqb-false, eqb-true, ne_eqb}
use Rattle.std.proofs.lemmas.List.{append-nil, map-append}
use Rattle.std.proofs.lemmas.List.Concat.{flat_map-append}
use Rattle.std.proofs.lemmas.List.Elements.{filter-append}
use Rattle.ii_base.specs.Json.{Leaf, text_leaf, unsupported, value_leaf}
use Rattle.ii_base.specs.Words.{Word}
use Rattle.ii_alive.specs.Alive.{num_living}
use Rattle.ii_alive.proofs.RankLemmas.{all_living}
use Rattle.ii_definitions.specs.Tokens.{Call, Content, IndexToken, Piece, begin_after, call_pieces, content_pieces, end_after, is_same_group, kept_words, leaf_pieces, leaves, piece_tokens, piece_tokens_from, pieces_of, text, tokens_after, tokens_of, value, word_token, words}
use Rattle.ii_segments.specs.Documents.{Document, SegmentsAreOneIndex, calls_of_doc, documents_tokens, numbered_calls, segment_of}
use Rattle.ii_segments.specs.Segments.{index_tokens, living_tokens, tokens_from}
use Rattle.ii_segments.proofs.MergeLaws.{all_alive, all_append, from_shift, shift}
use Rattle.ii_definitions.proofs.PieceLaws.{tokens_after-append}

-- ---- pieces whose document's number is greater by a number
abbrev later : ℕ → Piece → Piece
later a p = record p { doc = a + p.doc }

module _ (analyze : List ℕ → List Word) where
  leaves_later : (a doc field : ℕ) (ls : List (List ℕ × Leaf)) → flat_map (leaf_pieces analyze (a + doc) field) ls ≡ map (later a) (flat_map (leaf_pieces analyze doc field) ls)
  leaves_later a doc field [] = refl
  leaves_later a doc field ((path, text_leaf t) ∷ ls) = ap (λ (l : List Piece). leaf_pieces analyze (a + doc) field (path, text_leaf t) ++ l) (leaves_later a doc field ls)
  leaves_later a doc field ((path, value_leaf t n) ∷ ls) = ap (λ (l : List Piece). leaf_pieces analyze (a + doc) field (path, value_leaf t n) ++ l) (leaves_later a doc field ls)
  leaves_later a doc field ((path, unsupported kind) ∷ ls) = leaves_later a doc field ls

  content_later : (a doc field : ℕ) (c : Content) → content_pieces analyze (record { doc = a + doc; field = field; content = c }) c ≡ map (later a) (content_pieces analyze (record { doc = doc; field = field; content = c }) c)
  content_later a doc field (text t) = refl
  content_later a doc field (words ws) = refl
  content_later a doc field (value key) = refl
  content_later a doc field (leaves ls) = leaves_later a doc field ls

  calls_later : (a doc : ℕ) (cs : List Call) → pieces_of analyze (calls_of_doc (a + doc) cs) ≡ map (later a) (pieces_of analyze (calls_of_doc doc cs))
  calls_later a doc [] = refl
  calls_later a doc (c ∷ cs) =
      ap (λ (l : List Piece). l ++ pieces_of analyze (calls_of_doc (a + doc) cs)) (content_later a doc c.field c.content)
      ∙ ap (λ (l : List Piece). map (later a) (call_pieces analyze (record c { doc = doc })) ++ l) (calls_later a doc cs)
      ∙ sym (map-append (later a) (call_pieces analyze (record c { doc = doc })) (pieces_of analyze (calls_of_doc doc cs)))

  pieces_later : (a doc : ℕ) (xs : List Document) → pieces_of analyze (numbered_calls (a + doc) xs) ≡ map (later a) (pieces_of analyze (numbered_calls doc xs))
  pieces_later a doc [] = refl
  pieces_later a doc (x ∷ xs) =
      let next : a + doc + 1 ≡ a + (doc + 1) = omega arith in
      flat_map-append (call_pieces analyze) (calls_of_doc (a + doc) x) (numbered_calls (a + doc + 1) xs)
      ∙ ap (λ (l : List Piece). l ++ pieces_of analyze (numbered_calls (a + doc + 1) xs)) (calls_later a doc x)
      ∙ ap (λ (m : ℕ). map (later a) (pieces_of analyze (calls_of_doc doc x)) ++ pieces_of analyze (numbered_calls m xs)) next
      ∙ ap (λ (l : List Piece). map (later a) (pieces_of analyze (calls_of_doc doc x)) ++ l) (pieces_later a (doc + 1) xs)
      ∙ sym (map-append (later a) (pieces_of analyze (calls_of_doc doc x)) (pieces_of analyze (numbered_calls (doc + 1) xs)))
      ∙ ap (map (later a)) (sym (flat_map-append (call_pieces analyze) (calls_of_doc doc x) (numbered_calls (doc + 1) xs)))

  numbered_both : (doc : ℕ) (xs ys : List Document) → numbered_calls doc (xs ++ ys) ≡ numbered_calls doc xs ++ numbered_calls (doc + length xs) ys
  numbered_both doc [] ys = ap (λ (m : ℕ). numbered_calls m ys) (omega arith)
  numbered_both doc (x ∷ xs) ys =
      let next : doc + 1 + length xs ≡ doc + suc (length xs) = omega arith in
      ap (λ (l : List Call). calls_of_doc doc x ++ l) (numbered_both (doc + 1) xs ys ∙ ap (λ (m : ℕ). numbered_calls (doc + 1) xs ++ numbered_calls m ys) next)
      ∙ sym (append_assoc (calls_of_doc doc x) (numbered_calls (doc + 1) xs) (numbered_calls (doc + suc (length xs)) ys))

  -- ---- the documents of pieces
  abbrev IsIn : ℕ → ℕ → Piece → Type 0
  IsIn least limit p = (least ≤ p.doc) × (p.doc < limit)

  both_in : (least limit : ℕ) (ps qs : List Piece) → AllByRecursion (IsIn least limit) ps → AllByRecursion (IsIn least limit) qs → AllByRecursion (IsIn least limit) (ps ++ qs)
  both_in least limit [] qs first second = second
  both_in least limit (p ∷ ps) qs first second = (first.0, both_in least limit ps qs first.1 second)

  leaves_in : (least limit doc field : ℕ) (ls : List (List ℕ × Leaf)) → least ≤ doc → doc < limit → AllByRecursion (IsIn least limit) (flat_map (leaf_pieces analyze doc field) ls)
  leaves_in least limit doc field [] after before = tt
  leaves_in least limit doc field ((path, text_leaf t) ∷ ls) after before = ((after, before), leaves_in least limit doc field ls after before)
  leaves_in least limit doc field ((path, value_leaf t n) ∷ ls) after before = ((after, before), leaves_in least limit doc field ls after before)
  leaves_in least limit doc field ((path, unsupported kind) ∷ ls) after before = leaves_in least limit doc field ls after before

  content_in : (least limit doc field : ℕ) (c : Content) → least ≤ doc → doc < limit → AllByRecursion (IsIn least limit) (content_pieces analyze (record { doc = doc; field = field; content = c }) c)
  content_in least limit doc field (text t) after before = ((after, before), tt)
  content_in least limit doc field (words ws) after before = ((after, before), tt)
  content_in least limit doc field (value key) after before = ((after, before), tt)
  content_in least limit doc field (leaves ls) after before = leaves_in least limit doc field ls after before

  calls_in : (least limit doc : ℕ) (cs : List Call) → least ≤ doc → doc < limit → AllByRecursion (IsIn least limit) (pieces_of analyze (calls_of_doc doc cs))
  calls_in least limit doc [] after before = tt
  calls_in least limit doc (c ∷ cs) after before =
      both_in least limit (call_pieces analyze (record c { doc = doc })) (pieces_of analyze (calls_of_doc doc cs)) (content_in least limit doc c.field c.content after before) (calls_in least limit doc cs after before)

  pieces_in : (least limit doc : ℕ) (xs : List Document) → least ≤ doc → doc + length xs ≤ limit → AllByRecursion (IsIn least limit) (pieces_of analyze (numbered_calls doc xs))
  pieces_in least limit doc [] after before = tt
  pieces_in least limit doc (x ∷ xs) after before =
      rw (flat_map-append (call_pieces analyze) (calls_of_doc doc x) (numbered_calls (doc + 1) xs))
      (both_in least limit (pieces_of analyze (calls_of_doc doc x)) (pieces_of analyze (numbered_calls (doc + 1) xs)) (calls_in least limit doc x after (omega arith)) (pieces_in least limit (doc + 1) xs (omega arith) (omega arith)))

-- ---- tokens of pieces of other documents
same_sum : (a b c : ℕ) → nat_eq (a + b) (a + c) ≡ nat_eq b c
same_sum a b c = by (nat_eq b c) refl
  where
    by : (t : Bool) → nat_eq b c ≡ t → nat_eq (a + b) (a + c) ≡ nat_eq b c
    by true is = eq-eqb (a + b) (a + c) (ap (λ (n : ℕ). a + n) (eqb-true b c is)) ∙ sym is
    by false not = ne_eqb (a + b) (a + c) (λ same. eqb-false b c not (omega (arith, same))) ∙ sym not

group_later : (a : ℕ) (p q : Piece) → is_same_group (later a p) (later a q) ≡ is_same_group p q
group_later a p q = ap (λ (b : Bool). q.is_text && b && (q.field == p.field) && bytes_eq q.prefix p.prefix) (same_sum a q.doc p.doc)

filter_later : (a : ℕ) (p : Piece) (ps : List Piece) → filter (is_same_group (later a p)) (map (later a) ps) ≡ map (later a) (filter (is_same_group p) ps)
filter_later a p [] = refl
filter_later a p (q ∷ qs) = by (is_same_group p q) refl (filter_later a p qs)
  where
    by : (b : Bool) → is_same_group p q ≡ b → filter (is_same_group (later a p)) (map (later a) qs) ≡ map (later a) (filter (is_same_group p) qs)
        → filter (is_same_group (later a p)) (map (later a) (q ∷ qs)) ≡ map (later a) (filter (is_same_group p) (q ∷ qs))
    by true is others = rw (group_later a p q ∙ is, is) (ap (λ (l : List Piece). later a q ∷ l) others)
    by false not others = rw (group_later a p q ∙ not, not) others

abbrev after_piece : ℕ → Piece → ℕ
after_piece end q = end_after end q.words

fold_later : (a begin : ℕ) (ps : List Piece) → fold after_piece begin (map (later a) ps) ≡ fold after_piece begin ps
fold_later a begin [] = refl
fold_later a begin (p ∷ ps) = fold_later a (after_piece begin p) ps

begin_later : (a : ℕ) (p : Piece) (earlier : List Piece) → begin_after (map (later a) earlier) (later a p) ≡ begin_after earlier p
begin_later a p earlier = ap (fold after_piece 0) (filter_later a p earlier) ∙ fold_later a 0 (filter (is_same_group p) earlier)

words_later : (a begin : ℕ) (p : Piece) (ws : List Word) → map (word_token (later a p) begin) ws ≡ map (shift a) (map (word_token p begin) ws)
words_later a begin p [] = refl
words_later a begin p (w ∷ ws) = ap (λ (l : List IndexToken). word_token (later a p) begin w ∷ l) (words_later a begin p ws)

piece_later : (a begin : ℕ) (p : Piece) (b : Bool) → piece_tokens_from b begin (later a p) ≡ map (shift a) (piece_tokens_from b begin p)
piece_later a begin p true = words_later a begin p (kept_words p.words)
piece_later a begin p false = refl

tokens_later : (a : ℕ) (earlier ps : List Piece) → tokens_after (map (later a) earlier) (map (later a) ps) ≡ map (shift a) (tokens_after earlier ps)
tokens_later a earlier [] = refl
tokens_later a earlier (p ∷ ps) =
    let more : map (later a) earlier ++ later a p ∷ [] ≡ map (later a) (earlier ++ p ∷ []) = sym (map-append (later a) earlier (p ∷ [])) in
    ap (λ (begin : ℕ). piece_tokens_from p.is_text begin (later a p) ++ tokens_after (map (later a) earlier ++ later a p ∷ []) (map (later a) ps)) (begin_later a p earlier)
    ∙ ap (λ (l : List IndexToken). l ++ tokens_after (map (later a) earlier ++ later a p ∷ []) (map (later a) ps)) (piece_later a (begin_after earlier p) p p.is_text)
    ∙ ap (λ (l : List Piece). map (shift a) (piece_tokens earlier p) ++ tokens_after l (map (later a) ps)) more
    ∙ ap (λ (l : List IndexToken). map (shift a) (piece_tokens earlier p) ++ l) (tokens_later a (earlier ++ p ∷ []) ps)
    ∙ sym (map-append (shift a) (piece_tokens earlier p) (tokens_after (earlier ++ p ∷ []) ps))

no_group : (m : ℕ) (p : Piece) (ps : List Piece) → m ≤ p.doc → AllByRecursion (λ (q : Piece). q.doc < m) ps → filter (is_same_group p) ps ≡ []
no_group m p [] after before = refl
no_group m p (q ∷ qs) after before =
    let other : nat_eq q.doc p.doc ≡ false = ne_eqb q.doc p.doc (λ same. omega (arith, same, after, before.0)) in
    let apart : is_same_group p q ≡ false = ap (λ (b : Bool). q.is_text && b && (q.field == p.field) && bytes_eq q.prefix p.prefix) other ∙ none q.is_text (q.field == p.field) (bytes_eq q.prefix p.prefix) in
    rw apart (no_group m p qs after before.1)
  where
    none : (b c d : Bool) → (b && false && c && d) ≡ false
    none true c d = refl
    none false c d = refl

-- pieces of earlier documents don't matter
tokens_apart : (m : ℕ) (earlier own ps : List Piece) → AllByRecursion (λ (q : Piece). q.doc < m) earlier → AllByRecursion (λ (q : Piece). m ≤ q.doc) ps → tokens_after (earlier ++ own) ps ≡ tokens_after own ps
tokens_apart m earlier own [] before after = refl
tokens_apart m earlier own (p ∷ ps) before after =
    let begin : begin_after (earlier ++ own) p ≡ begin_after own p =
    ap (fold after_piece 0) (filter-append (is_same_group p) earlier own ∙ ap (λ (l : List Piece). l ++ filter (is_same_group p) own) (no_group m p earlier after.0 before)) in
    ap (λ (n : ℕ). piece_tokens_from p.is_text n p ++ tokens_after ((earlier ++ own) ++ p ∷ []) ps) begin
    ∙ ap (λ (l : List Piece). piece_tokens own p ++ tokens_after l ps) (append_assoc earlier own (p ∷ []))
    ∙ ap (λ (l : List IndexToken). piece_tokens own p ++ l) (tokens_apart m earlier (own ++ p ∷ []) ps before after.1)

all_fewer : (least limit : ℕ) (ps : List Piece) → AllByRecursion (λ (p : Piece). (least ≤ p.doc) × (p.doc < limit)) ps → AllByRecursion (λ (p : Piece). least ≤ p.doc) ps × AllByRecursion (λ (p : Piece). p.doc < limit) ps
all_fewer least limit [] within = (tt, tt)
all_fewer least limit (p ∷ ps) within = let others = all_fewer least limit ps within.1 in ((within.0.0, others.0), (within.0.1, others.1))

words_below : (limit begin : ℕ) (p : Piece) → p.doc < limit → (ws : List Word) → AllByRecursion (λ (t : IndexToken). t.doc < limit) (map (word_token p begin) ws)
words_below limit begin p before [] = tt
words_below limit begin p before (w ∷ ws) = (before, words_below limit begin p before ws)

piece_below : (limit begin : ℕ) (p : Piece) → p.doc < limit → (b : Bool) → AllByRecursion (λ (t : IndexToken). t.doc < limit) (piece_tokens_from b begin p)
piece_below limit begin p before true = words_below limit begin p before (kept_words p.words)
piece_below limit begin p before false = (before, tt)

tokens_below : (limit : ℕ) (earlier ps : List Piece) → AllByRecursion (λ (p : Piece). p.doc < limit) ps → AllByRecursion (λ (t : IndexToken). t.doc < limit) (tokens_after earlier ps)
tokens_below limit earlier [] before = tt
tokens_below limit earlier (p ∷ ps) before =
    all_append (λ (t : IndexToken). t.doc < limit) (piece_tokens earlier p) (tokens_after (earlier ++ p ∷ []) ps)
    (piece_below limit (begin_after earlier p) p before.0 p.is_text) (tokens_below limit (earlier ++ p ∷ []) ps before.1)

-- numbers that nothing is added to
pub shift_none : (ts : List IndexToken) → map (shift 0) ts ≡ ts
shift_none [] = refl
shift_none (t ∷ ts) = let none : 0 + t.doc ≡ t.doc = omega arith in ap (λ (d : ℕ). record t { doc = d } ∷ map (shift 0) ts) none ∙ ap (λ (l : List IndexToken). t ∷ l) (shift_none ts)

module _ (analyze : List ℕ → List Word) where
  abbrev pieces_from : ℕ → List Document → List Piece
  pieces_from doc xs = pieces_of analyze (numbered_calls doc xs)

  -- the tokens of documents, and of others after them
  documents_both : (xs ys : List Document) → documents_tokens analyze (xs ++ ys) ≡ documents_tokens analyze xs ++ map (shift (length xs)) (documents_tokens analyze ys)
  documents_both xs ys =
      let n = length xs in
      let ps = pieces_from 0 xs in
      let qs = pieces_from (0 + n) ys in
      let start : 0 + n ≡ n + 0 = omega arith in
      let own = all_fewer 0 n ps (pieces_in analyze 0 n 0 xs (omega arith) (omega arith)) in
      let others = all_fewer n (n + length ys) qs (pieces_in analyze n (n + length ys) (0 + n) ys (omega arith) (omega arith)) in
      ap (λ (cs : List Call). tokens_of analyze cs) (numbered_both analyze 0 xs ys)
      ∙ ap (tokens_after []) (flat_map-append (call_pieces analyze) (numbered_calls 0 xs) (numbered_calls (0 + n) ys))
      ∙ tokens_after-append [] ps qs
      ∙ ap (λ (l : List Piece). tokens_after [] ps ++ tokens_after l qs) (sym (append-nil ps))
      ∙ ap (λ (l : List IndexToken). tokens_after [] ps ++ l) (tokens_apart n ps [] qs own.1 others.0)
      ∙ ap (λ (m : ℕ). tokens_after [] ps ++ tokens_after [] (pieces_from m ys)) start
      ∙ ap (λ (l : List Piece). tokens_after [] ps ++ tokens_after [] l) (pieces_later analyze n 0 ys)
      ∙ ap (λ (l : List IndexToken). tokens_after [] ps ++ l) (tokens_later n [] (pieces_from 0 ys))

  own_tokens : (xs : List Document) → living_tokens 0 (segment_of analyze xs) ≡ documents_tokens analyze xs
  own_tokens xs =
      let n = length xs in
      let ps = pieces_from 0 xs in
      let own = all_fewer 0 n ps (pieces_in analyze 0 n 0 xs (omega arith) (omega arith)) in
      all_alive 0 n (documents_tokens analyze xs) (tokens_below n [] ps own.1) ∙ shift_none (documents_tokens analyze xs)

  as_one_index : (xss : List (List Document)) → index_tokens (map (segment_of analyze) xss) ≡ documents_tokens analyze (flat_map (λ (xs : List Document). xs) xss)
  as_one_index [] = refl
  as_one_index (xs ∷ xss) =
      let n = length xs in
      let rest = map (segment_of analyze) xss in
      let others = flat_map (λ (ys : List Document). ys) xss in
      let count : 0 + num_living (replicate n true) ≡ n + 0 = omega (arith, all_living n) in
      ap (λ (l : List IndexToken). l ++ tokens_from (0 + num_living (replicate n true)) rest) (own_tokens xs)
      ∙ ap (λ (m : ℕ). documents_tokens analyze xs ++ tokens_from m rest) count
      ∙ ap (λ (l : List IndexToken). documents_tokens analyze xs ++ l) (from_shift n 0 rest ∙ ap (map (shift n)) (as_one_index xss))
      ∙ sym (documents_both xs others)

pub segments_are_one_index : SegmentsAreOneIndex
segments_are_one_index analyze xss = as_one_index analyze xss

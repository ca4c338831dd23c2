-- Counts of tokens while calls are indexed.
use Rattle.std.proofs.Common.{◌≡◌, ◌≢◌, ℕ, zero, suc, ◌+◌, ◌<◌, ◌==◌, ◌&&◌, ◌||◌, min, Bool, true, false, List, [], ◌∷◌, ◌++◌, get_or, length, map, replicate, refl, sym, ap, ◌∙◌, arith, if◌then◌else◌}
use Rattle.std.specs.Prelude.{slice_get, Some}
use Rattle.std.specs.List.{AllByRecursion, flat_map, list_any, range_with_len}
use Rattle.std.proofs.lemmas.Bool.{eqb-false, eqb-true}
use Rattle.std.proofs.lemmas.List.{length-replicate}
use Rattle.std.proofs.lemmas.List.Sums.{sum_by-append}
use Rattle.ii_base.specs.Json.{Leaf, text_leaf, unsupported, value_leaf}
use Rattle.ii_base.specs.Schema.{SchemaEntry}
use Rattle.ii_base.specs.Words.{Word}
use Rattle.ii_counts.specs.CountsWriter.{SetsCount, count_at, first_counts, is_limit}
use Rattle.ii_definitions.specs.Postings.{doc_count}
use Rattle.ii_definitions.specs.Tokens.{Call, Content, IndexToken, Piece, begin_after, call_pieces, content_pieces, kept_words, leaf_pieces, leaves, piece_tokens, piece_tokens_from, text, tokens_after, value, word_token, words}
use Rattle.ii_definitions.proofs.ListLaws.{all_both}
use Rattle.ii_definitions.proofs.PieceLaws.{tokens_after-append}
use Rattle.ii_segments.specs.HoldCounts.{HasManyTokens, field_counts}
use Rattle.ii_segments.specs.Segments.{doc_counts}
use Rattle.ii_segments.proofs.CountLaws.{map_all}
use Rattle.nequllpa_indexing.specs.Counted.{HasCounts}
use Rattle.nequllpa_indexing.specs.FieldTokens.{pieces_by, tokens_by}
use Rattle.nequllpa_indexing.proofs.FieldLaws.{pieces_with_by}

-- the tokens of a call are of its document, in its field

abbrev pub IsPieceOf : ℕ → ℕ → Piece → Type 0
IsPieceOf doc field p = (p.doc ≡ doc) × (p.field ≡ field)

abbrev pub IsTokenOf : ℕ → ℕ → IndexToken → Type 0
IsTokenOf doc field t = (t.doc ≡ doc) × (t.field ≡ field)

module _ (analyze : List ℕ → List Word) (doc field : ℕ) where
  leaf_of : (l : List ℕ × Leaf) → AllByRecursion (IsPieceOf doc field) (leaf_pieces analyze doc field l)
  leaf_of (path, text_leaf t) = ((refl, refl), tt)
  leaf_of (path, value_leaf t n) = ((refl, refl), tt)
  leaf_of (path, unsupported kind) = tt

  leaves_of : (ls : List (List ℕ × Leaf)) → AllByRecursion (IsPieceOf doc field) (flat_map (leaf_pieces analyze doc field) ls)
  leaves_of [] = tt
  leaves_of (l ∷ ls) = all_both (IsPieceOf doc field) (leaf_pieces analyze doc field l) (flat_map (leaf_pieces analyze doc field) ls) (leaf_of l) (leaves_of ls)

  pub content_of : (c : Content) → AllByRecursion (IsPieceOf doc field) (content_pieces analyze (record { doc = doc; field = field; content = c }) c)
  content_of (text t) = ((refl, refl), tt)
  content_of (words ws) = ((refl, refl), tt)
  content_of (value key) = ((refl, refl), tt)
  content_of (leaves ls) = leaves_of ls

  word_tokens_of : (p : Piece) (begin : ℕ) (ws : List Word) → IsPieceOf doc field p → AllByRecursion (IsTokenOf doc field) (map (word_token p begin) ws)
  word_tokens_of p begin [] of = tt
  word_tokens_of p begin (w ∷ ws) of = (of, word_tokens_of p begin ws of)

  piece_tokens_of : (p : Piece) (begin : ℕ) (is_text : Bool) → IsPieceOf doc field p → AllByRecursion (IsTokenOf doc field) (piece_tokens_from is_text begin p)
  piece_tokens_of p begin true of = word_tokens_of p begin (kept_words p.words) of
  piece_tokens_of p begin false of = (of, tt)

  pieces_tokens_of : (earlier ps : List Piece) → AllByRecursion (IsPieceOf doc field) ps → AllByRecursion (IsTokenOf doc field) (tokens_after earlier ps)
  pieces_tokens_of earlier [] all = tt
  pieces_tokens_of earlier (p ∷ ps) all =
      all_both (IsTokenOf doc field) (piece_tokens earlier p) (tokens_after (earlier ++ p ∷ []) ps) (piece_tokens_of p (begin_after earlier p) p.is_text all.0) (pieces_tokens_of (earlier ++ p ∷ []) ps all.1)

pub call_tokens_of : (analyze : List ℕ → List Word) (earlier : List Piece) (c : Call) → AllByRecursion (IsTokenOf c.doc c.field) (tokens_after earlier (call_pieces analyze c))
call_tokens_of analyze earlier c = pieces_tokens_of analyze c.doc c.field earlier (call_pieces analyze c) (content_of analyze c.doc c.field c.content)

-- so no other number changes

apart : (a b c d : ℕ) → (b ≡ d → a ≡ c → ⊥) → ((c == a) && (d == b)) ≡ false
apart a b c d other = by (c == a) (d == b) refl refl
  where
    by : (x y : Bool) → (c == a) ≡ x → (d == b) ≡ y → ((c == a) && (d == b)) ≡ false
    by true true same_doc same_field = absurd (other (sym (eqb-true d b same_field)) (sym (eqb-true c a same_doc)))
    by true false same_doc differ = rw (same_doc, differ) refl
    by false y differ same_field = rw differ refl

none_of : (doc field d f : ℕ) (us : List IndexToken) → AllByRecursion (IsTokenOf doc field) us → (f ≡ field → d ≡ doc → ⊥) → doc_count d f us ≡ 0
none_of doc field d f [] all other = refl
none_of doc field d f (t ∷ us) all other =
    let no_match : ((t.doc == d) && (t.field == f)) ≡ false = apart d f t.doc t.field (λ same_field same_doc. other (same_field ∙ all.0.1) (same_doc ∙ all.0.0)) in
    rw no_match (none_of doc field d f us all.1 other)

same_count : (doc field d f : ℕ) (ts us : List IndexToken) → AllByRecursion (IsTokenOf doc field) us → (f ≡ field → d ≡ doc → ⊥) → doc_count d f (ts ++ us) ≡ doc_count d f ts
same_count doc field d f ts us all other = sum_by-append (λ (t : IndexToken). if (t.doc == d) && (t.field == f) then 1 else 0) ts us ∙ omega (arith, none_of doc field d f us all other)

none_recorded : (n f : ℕ) → get_or (replicate {A = List ℕ} n []) f [] ≡ []
none_recorded zero f = refl
none_recorded (suc n) zero = refl
none_recorded (suc n) (suc f) = none_recorded n f

pub counts_begin : (entries : List SchemaEntry) → HasCounts entries [] (replicate (length entries) [])
counts_begin entries = record {
  fields = length-replicate (length entries) [];
  each = λ field doc known. ap (λ (row : List ℕ). get_or row doc 0) (none_recorded (length entries) field);
}

pub counts_more : (entries : List SchemaEntry) (ts us : List IndexToken) (old new : List (List ℕ)) (field doc count : ℕ) → AllByRecursion (IsTokenOf doc field) us → HasCounts entries ts old → SetsCount old new field doc count → count ≡ min (doc_count doc field (ts ++ us)) 4294967295 → HasCounts entries (ts ++ us) new
counts_more entries ts us old new field doc count all has set is = record { fields = set.fields ∙ has.fields; each = each }
  where
    each : (f d : ℕ) → f < length entries → count_at new f d ≡ min (doc_count d f (ts ++ us)) 4294967295
    each f d known = by (f == field) (d == doc) refl refl
      where
        other : (f ≡ field → d ≡ doc → ⊥) → count_at new f d ≡ min (doc_count d f (ts ++ us)) 4294967295
        other differ = set.others f d differ ∙ has.each f d known ∙ ap (λ (n : ℕ). min n 4294967295) (sym (same_count doc field d f ts us all differ))

        by : (x y : Bool) → (f == field) ≡ x → (d == doc) ≡ y → count_at new f d ≡ min (doc_count d f (ts ++ us)) 4294967295
        by true true same_field same_doc =
            ap (λ (x : ℕ). count_at new x d) (eqb-true f field same_field) ∙ ap (λ (x : ℕ). count_at new field x) (eqb-true d doc same_doc) ∙ set.here ∙ is
            ∙ ap (λ (x : ℕ). min (doc_count x field (ts ++ us)) 4294967295) (sym (eqb-true d doc same_doc)) ∙ ap (λ (x : ℕ). min (doc_count d x (ts ++ us)) 4294967295) (sym (eqb-true f field same_field))
        by true false same_field differ = other (λ a b. eqb-false d doc differ b)
        by false y differ same_doc = other (λ a b. eqb-false f field differ a)

-- the tokens of one call more
pub tokens_with_call : (analyze : ℕ → List ℕ → List Word) (cs : List Call) (c : Call) → tokens_by analyze (cs ++ c ∷ []) ≡ tokens_by analyze cs ++ tokens_after (pieces_by analyze cs) (call_pieces (analyze c.field) c)
tokens_with_call analyze cs c = ap (tokens_after []) (pieces_with_by analyze cs c) ∙ tokens_after-append [] (pieces_by analyze cs) (call_pieces (analyze c.field) c)

-- rows without the limit are the counts

none_at : {X : Type 0} (p : X → Bool) (xs : List X) (i : ℕ) (d : X) → list_any p xs ≡ false → p d ≡ false → p (get_or xs i d) ≡ false
none_at p [] i d none default = default
none_at p (x ∷ xs) zero d none default = first (p x) (list_any p xs) none
  where
    first : (a b : Bool) → (a || b) ≡ false → a ≡ false
    first true b e = absurd cc
    first false b e = refl
none_at p (x ∷ xs) (suc i) d none default = none_at p xs i d (second (p x) (list_any p xs) none) default
  where
    second : (a b : Bool) → (a || b) ≡ false → b ≡ false
    second true b e = absurd cc
    second false b e = e

pub record AnyAt {X : Type 0} (p : X → Bool) (xs : List X) (d : X) : Type 0 where
  pub place : ℕ
  pub within : place < length xs
  pub holds : p (get_or xs place d) ≡ true

any_cons : {X : Type 0} (p : X → Bool) (x : X) (xs : List X) (d : X) (b : Bool) → p x ≡ b → (list_any p xs ≡ true → AnyAt p xs d) → (b || list_any p xs) ≡ true → AnyAt p (x ∷ xs) d
any_cons p x xs d true is rest e = record { place = 0; within = omega arith; holds = is }
any_cons p x xs d false is rest e = let at = rest e in record { place = suc at.place; within = omega (arith, at.within); holds = at.holds }

any_at : {X : Type 0} (p : X → Bool) (xs : List X) (d : X) → list_any p xs ≡ true → AnyAt p xs d
any_at p [] d any = absurd cc
any_at p (x ∷ xs) d any = any_cons p x xs d (p x) refl (λ e. any_at p xs d e) any

no_limit_at : (rows : List (List ℕ)) (field doc : ℕ) → list_any (list_any is_limit) rows ≡ false → count_at rows field doc ≢ 4294967295
no_limit_at rows field doc none = eqb-false (count_at rows field doc) 4294967295 (none_at is_limit (get_or rows field []) doc 0 (none_at (list_any is_limit) rows field [] none refl) refl)

pub limit_is_many : (entries : List SchemaEntry) (ts : List IndexToken) (rows : List (List ℕ)) → HasCounts entries ts rows → list_any (list_any is_limit) rows ≡ true → HasManyTokens entries ts
limit_is_many entries ts rows has any =
    let row = any_at (list_any is_limit) rows [] any in
    let at = any_at is_limit (get_or rows row.place []) 0 row.holds in
    let known : row.place < length entries = omega (arith, row.within, has.fields) in
    let count : count_at rows row.place at.place ≡ 4294967295 = eqb-true (count_at rows row.place at.place) 4294967295 at.holds in
    record { field = row.place; doc = at.place; known = known; many = omega (arith, count, has.each row.place at.place known) }

pub many_is_limit : (entries : List SchemaEntry) (ts : List IndexToken) (rows : List (List ℕ)) → HasCounts entries ts rows → list_any (list_any is_limit) rows ≡ false → HasManyTokens entries ts → ⊥
many_is_limit entries ts rows has none many = no_limit_at rows many.field many.doc none (omega (arith, has.each many.field many.doc many.known, many.many))

rows_from : (first n : ℕ) (ts : List IndexToken) (rows : List (List ℕ)) → ((field doc : ℕ) → field < length rows → count_at rows field doc ≡ doc_count doc (first + field) ts)
    → map (first_counts n) rows ≡ map (λ (field : ℕ). doc_counts n field ts) (range_with_len first (length rows))
rows_from first n ts [] each = refl
rows_from first n ts (row ∷ rows) each =
    let here : first_counts n row ≡ doc_counts n first ts =
    map_all (λ (doc : ℕ). get_or row doc 0) (λ (doc : ℕ). doc_count doc first ts) (range_with_len 0 n) (λ doc. each 0 doc (omega arith) ∙ ap (λ (f : ℕ). doc_count doc f ts) (omega arith)) in
    let rest = rows_from (first + 1) n ts rows (λ field doc lt. each (suc field) doc (omega (arith, lt)) ∙ ap (λ (f : ℕ). doc_count doc f ts) (omega arith)) in
    ap (λ (r : List ℕ). r ∷ map (first_counts n) rows) here ∙ ap (λ (rs : List (List ℕ)). doc_counts n first ts ∷ rs) rest

pub rows_are : (entries : List SchemaEntry) (n : ℕ) (ts : List IndexToken) (rows : List (List ℕ)) → HasCounts entries ts rows → list_any (list_any is_limit) rows ≡ false → map (first_counts n) rows ≡ field_counts entries n ts
rows_are entries n ts rows has none =
    rows_from 0 n ts rows (λ field doc lt. exact field doc (omega (arith, lt, has.fields)) ∙ ap (λ (f : ℕ). doc_count doc f ts) (omega arith))
    ∙ ap (λ (len : ℕ). map (λ (field : ℕ). doc_counts n field ts) (range_with_len 0 len)) has.fields
  where
    exact : (field doc : ℕ) → field < length entries → count_at rows field doc ≡ doc_count doc field ts
    exact field doc known = omega (arith, has.each field doc known, no_limit_at rows field doc none)

pub within : {X : Type 0} (xs : List X) (i : ℕ) (x : X) → slice_get xs i ≡ Some x → i < length xs
within [] i x found = absurd cc
within (y ∷ ys) zero x found = omega arith
within (y ∷ ys) (suc i) x found = omega (arith, within ys i x found)

-- Texts whose tokens are in order, and calls of single values, are taken.
use Rattle.std.proofs.Common.{◌≡◌, ℕ, zero, suc, ◌+◌, ◌-◌, ◌≤◌, ◌<◌, ◌==◌, Bool, true, false, ◌&&◌, List, [], ◌∷◌, ◌++◌, length, map, max, nat_eq, Option, Some, None, refl, sym, ap, ◌∙◌, subst, arith, length-append, true≢false, inl, inr}
use Rattle.std.specs.Prelude.{◌⊎◌, bytes_eq, filter, fold, if◌then◌else◌, nat_le, nat_lt, slice_index, unwrap_or}
use Rattle.std.specs.List.{AllByRecursion, find, sum_by}
use Rattle.std.proofs.lemmas.Bool.{and_parts, eq-eqb, eqb-true, le-ltb, leb-true, lt-leb, ne_eqb}
use Rattle.std.proofs.lemmas.List.{length-map}
use Rattle.std.proofs.lemmas.List.Sums.{count_by-le-length, length-filter, sum_by-append, sum_by-cons}
use Rattle.ii_io.specs.declared.faults.Fault.{Fault}
use Rattle.ii_base.specs.declared.schema.index_record_option.IndexRecordOption.{IndexRecordOption}
use Rattle.ii_base.specs.declared.schema.index_record_option.IndexRecordOption.TheVariants.{Basic, WithFreqs, WithFreqsAndPositions}
use Rattle.ii_base.specs.Entries.{Entry}
use Rattle.ii_base.specs.Options.{downgrade, has_freq, has_positions}
use Rattle.ii_base.specs.Words.{Word}
use Rattle.ii_json.specs.LeafVisit.{first_fault}
use Rattle.ii_indexing.proofs.PieceLaws.{tokens_with}
use Rattle.ii_definitions.proofs.ListLaws.{all_both, all_weaker}
use Rattle.ii_definitions.specs.Cut.{cut_entry}
use Rattle.ii_definitions.specs.Postings.{field_count, grouped, is_at, kind_of, tokens_at, with_token}
use Rattle.ii_definitions.specs.Tokens.{IndexToken, Piece, begin_after, end_after, is_same_group, kept_words, max_token_len, piece_tokens, piece_tokens_from, text_at, tokens_after, value_token, word_token}
use Rattle.ii_recorder.specs.Recorded.{begun, last_position, position_fault, u32_max}
use Rattle.ii_postings_writer.specs.WordRefusals.{open_entry, u64_max, word_fault, words_fault}
use Rattle.ii_indexing.specs.Refusals.{group_count, known_paths, own_path_fault, piece_fault, piece_fault_from}
use Rattle.ii_promises.specs.OrderlyCalls.{AreInOrder}
use Rattle.ii_indexing.proofs.PieceLaws.{begin_more, group_more}
use Rattle.ii_recorder.proofs.SizeLemmas.{counted}

-- Where texts end.
ends_from : (begin least : ℕ) (ws : List Word) → fold (λ (end : ℕ) (w : Word). max end (begin + w.position + w.position_length)) (begin + least) ws ≡ begin + fold (λ (end : ℕ) (w : Word). max end (0 + w.position + w.position_length)) least ws
ends_from begin least [] = refl
ends_from begin least (w ∷ ws) =
    let next : max (begin + least) (begin + w.position + w.position_length) ≡ begin + max least (0 + w.position + w.position_length) = omega arith in
    ap (λ (end : ℕ). fold (λ (e : ℕ) (v : Word). max e (begin + v.position + v.position_length)) end ws) next ∙ ends_from begin (max least (0 + w.position + w.position_length)) ws

end_is : (begin : ℕ) (ws : List Word) → end_after begin ws ≡ begin + end_after 0 ws
end_is begin ws =
    let none : begin ≡ begin + 0 = omega arith in
    let whole = ap (λ (least : ℕ). fold (λ (end : ℕ) (w : Word). max end (begin + w.position + w.position_length)) least (kept_words ws)) none in
    omega (arith, whole, ends_from begin 0 (kept_words ws))

-- A word ends before a number.
abbrev EndsBefore : ℕ → Word → Type 0
EndsBefore most w = w.position + w.position_length ≤ most

least_end : (least : ℕ) (ws : List Word) → least ≤ fold (λ (end : ℕ) (w : Word). max end (0 + w.position + w.position_length)) least ws
least_end least [] = omega arith
least_end least (w ∷ ws) = omega (arith, least_end (max least (0 + w.position + w.position_length)) ws)

words_end : (least : ℕ) (ws : List Word) → AllByRecursion (EndsBefore (fold (λ (end : ℕ) (w : Word). max end (0 + w.position + w.position_length)) least ws)) ws
words_end least [] = tt
words_end least (w ∷ ws) = (omega (arith, least_end (max least (0 + w.position + w.position_length)) ws), words_end (max least (0 + w.position + w.position_length)) ws)

-- The entry of a document among the postings of a key.
record IsBounded (most n : ℕ) (e : Entry) : Type 0 where
  pub positions : AllByRecursion (λ (q : ℕ). q ≤ most) e.positions
  pub term_freq : e.term_freq ≤ n

abbrev HasPositions : ℕ → ℕ → Entry → Type 0
HasPositions doc most e = e.doc ≡ doc → AllByRecursion (λ (q : ℕ). q ≤ most) e.positions

abbrev IsBelow : ℕ → ℕ → IndexToken → Type 0
IsBelow doc most u = u.doc ≡ doc → u.position ≤ most

below_with : (doc most : ℕ) (u : IndexToken) (es : List Entry) → IsBelow doc most u → AllByRecursion (HasPositions doc most) es → AllByRecursion (HasPositions doc most) (with_token u es)
below_with doc most u [] low all = (λ is. (low is, tt), tt)
below_with doc most u (e ∷ es) low all = by_case (nat_eq e.doc u.doc) refl
  where
    by_case : (b : Bool) → nat_eq e.doc u.doc ≡ b → AllByRecursion (HasPositions doc most) (with_token u (e ∷ es))
    by_case true same = rw same (λ is. (low (sym (eqb-true e.doc u.doc same) ∙ is), all.0 is), all.1)
    by_case false other = rw other (λ is. (low is, tt), all)

below_grouped : (doc most : ℕ) (us : List IndexToken) → AllByRecursion (IsBelow doc most) us → AllByRecursion (HasPositions doc most) (grouped us)
below_grouped doc most [] all = tt
below_grouped doc most (u ∷ us) all = below_with doc most u (grouped us) all.0 (below_grouped doc most us all.1)

bounded_cut : (option : IndexRecordOption) (doc most n : ℕ) (e : Entry) → 1 ≤ n → e.term_freq ≤ n → AllByRecursion (λ (q : ℕ). q ≤ most) e.positions → IsBounded most n (cut_entry option e)
bounded_cut Basic doc most n e some few low = record { positions = tt; term_freq = some }
bounded_cut WithFreqs doc most n e some few low = record { positions = tt; term_freq = few }
bounded_cut WithFreqsAndPositions doc most n e some few low = record { positions = low; term_freq = few }

found_bounded : (option : IndexRecordOption) (doc most n : ℕ) (es : List Entry) (none : Entry) → 1 ≤ n → AllByRecursion (HasPositions doc most) es → sum_by (λ (e : Entry). e.term_freq) es ≤ n → IsBounded most n none
    → IsBounded most n (unwrap_or (find (λ (e : Entry). e.doc == doc) (map (cut_entry option) es)) none)
found_bounded option doc most n [] none some all few bounded = bounded
found_bounded option doc most n (e ∷ es) none some all few bounded = by_case (nat_eq e.doc doc) refl (found_bounded option doc most n es none some all.1 (omega (arith, few, sum_by-cons (λ (f : Entry). f.term_freq) e es)) bounded)
  where
    by_case : (b : Bool) → nat_eq e.doc doc ≡ b → IsBounded most n (unwrap_or (find (λ (f : Entry). f.doc == doc) (map (cut_entry option) es)) none)
        → IsBounded most n (unwrap_or (find (λ (f : Entry). f.doc == doc) (map (cut_entry option) (e ∷ es))) none)
    by_case true is rest = rw is (bounded_cut option doc most n e some (omega (arith, few, sum_by-cons (λ (f : Entry). f.term_freq) e es)) (all.0 (eqb-true e.doc doc is)))
    by_case false is rest = rw is rest

below_filtered : (p : IndexToken → Bool) (doc most : ℕ) (us : List IndexToken) → AllByRecursion (λ (u : IndexToken). p u ≡ true → IsBelow doc most u) us → AllByRecursion (IsBelow doc most) (filter p us)
below_filtered p doc most [] all = tt
below_filtered p doc most (u ∷ us) all = by_case (p u) refl (below_filtered p doc most us all.1)
  where
    by_case : (b : Bool) → p u ≡ b → AllByRecursion (IsBelow doc most) (filter p us) → AllByRecursion (IsBelow doc most) (filter p (u ∷ us))
    by_case true is rest = rw is (all.0 is, rest)
    by_case false is rest = rw is rest

opened_bounded : (option : IndexRecordOption) (t : IndexToken) (ts : List IndexToken) (most n : ℕ) → AllByRecursion (λ (u : IndexToken). is_at t.field t.key u ≡ true → IsBelow t.doc most u) ts → 1 ≤ n → length ts ≤ n → IsBounded most n (open_entry option t ts)
opened_bounded option t ts most n below some few =
    let own = tokens_at t.field t.key ts in
    let fewer : sum_by (λ (e : Entry). e.term_freq) (grouped own) ≤ n =
    omega (arith, few, counted (λ (e : Entry). e.term_freq) (λ t e. refl) (λ t. refl) own, length-filter (is_at t.field t.key) ts, count_by-le-length (is_at t.field t.key) ts) in
    found_bounded (downgrade (kind_of option own) option) t.doc most n (grouped own) (begun option t.doc) some (below_grouped t.doc most own (below_filtered (is_at t.field t.key) t.doc most ts below)) fewer
    (bounded_cut option t.doc most n (record { doc = t.doc; term_freq = 0; positions = [] }) some (omega arith) tt)

last_bounded : (most : ℕ) (ps : List ℕ) (k : ℕ) → AllByRecursion (λ (q : ℕ). q ≤ most) ps → slice_index ps k ≤ most
last_bounded most [] k all = omega arith
last_bounded most (q ∷ qs) zero all = all.0
last_bounded most (q ∷ qs) (suc k) all = last_bounded most qs k all.1

skipped : (a : Bool) (f : Fault) (o : Option Fault) → (if a && false then Some f else o) ≡ o
skipped true f o = refl
skipped false f o = refl

position_taken : (option : IndexRecordOption) (position most n : ℕ) (e : Entry) → IsBounded most n e → most ≤ position → position < u32_max → n < u32_max → position_fault option position e ≡ None
position_taken option position most n e bounded later low few =
    let not_last : nat_eq position u32_max ≡ false = ne_eqb position u32_max (λ is. absurd (omega (arith, is, low))) in
    let in_order : nat_lt position (last_position e.positions) ≡ false = le-ltb position (last_position e.positions) (omega (arith, later, last_bounded most e.positions (length e.positions - 1) bounded.positions)) in
    let fewer : nat_eq e.term_freq u32_max ≡ false = ne_eqb e.term_freq u32_max (λ is. absurd (omega (arith, is, few, bounded.term_freq))) in
    rw (not_last, in_order, fewer) (skipped (has_positions option) _ _ ∙ skipped (has_positions option) _ _ ∙ skipped (has_freq option) _ _)

-- A token of a document and field isn't after a position.
abbrev pub IsBeforeIn : ℕ → ℕ → ℕ → IndexToken → Type 0
IsBeforeIn doc field most u = u.doc ≡ doc → u.field ≡ field → u.position ≤ most

module _ (option : IndexRecordOption) (p : Piece) (begin : ℕ) where
  word_taken : (in_group least : ℕ) (ts : List IndexToken) (w : Word) → begin + (w.position + w.position_length) < u32_max → least ≤ w.position → AllByRecursion (IsBeforeIn p.doc p.field (begin + least)) ts
      → in_group < u32_max → length ts + 1 < u32_max → word_fault option p begin in_group ts w ≡ None
  word_taken in_group least ts w ends later before grouped_few few =
      let t = word_token p begin w in
      let counted_few = count_by-le-length (λ (u : IndexToken). u.field == p.field) ts in
      let at_end : nat_lt u32_max (begin + w.position + w.position_length) ≡ false = le-ltb u32_max (begin + w.position + w.position_length) (omega (arith, ends)) in
      let in_group_few : nat_le u32_max in_group ≡ false = lt-leb u32_max in_group grouped_few in
      let in_field_few : nat_le u64_max (field_count p.field ts) ≡ false = lt-leb u64_max (field_count p.field ts) (omega (arith, few, counted_few)) in
      let below : AllByRecursion (λ (u : IndexToken). is_at t.field t.key u ≡ true → IsBelow t.doc (begin + w.position) u) ts =
      all_weaker (IsBeforeIn p.doc p.field (begin + least)) (λ (u : IndexToken). is_at t.field t.key u ≡ true → IsBelow t.doc (begin + w.position) u) ts
      (λ u early at here. omega (arith, later, early here (eqb-true u.field p.field (and_parts (nat_eq u.field p.field) (bytes_eq u.key t.key) at).0))) before in
      rw (at_end, in_group_few, in_field_few)
      (position_taken option (begin + w.position) (begin + w.position) (length ts + 1) (open_entry option t ts) (opened_bounded option t ts (begin + w.position) (length ts + 1) below (omega arith) (omega arith)) (omega arith) (omega (arith, ends)) few)

  words_taken : (in_group least : ℕ) (ts : List IndexToken) (ws : List Word) → AllByRecursion (λ (w : Word). begin + (w.position + w.position_length) < u32_max) ws → AreInOrder least ws
      → AllByRecursion (IsBeforeIn p.doc p.field (begin + least)) ts → in_group + length ws ≤ u32_max → length ts + length ws < u32_max → words_fault option p begin in_group ts ws ≡ None
  words_taken in_group least ts [] ends ordered before grouped_few few = refl
  words_taken in_group least ts (w ∷ ws) ends ordered before grouped_few few =
      let t = word_token p begin w in
      let further = all_weaker (IsBeforeIn p.doc p.field (begin + least)) (IsBeforeIn p.doc p.field (begin + w.position)) ts (λ u early d f. omega (arith, ordered.0, early d f)) before in
      let next = all_both (IsBeforeIn p.doc p.field (begin + w.position)) ts (t ∷ []) further ((λ d f. omega arith), tt) in
      rw (word_taken in_group least ts w ends.0 ordered.0 before (omega (arith, grouped_few)) (omega (arith, few)))
      (words_taken (in_group + 1) w.position (ts ++ t ∷ []) ws ends.1 ordered.1 next (omega (arith, grouped_few)) (omega (arith, few, length-append ts (t ∷ []))))

-- A piece of one of these calls.
pub record IsOrderlyText (p : Piece) : Type 0 where
  pub is_text : p.is_text ≡ true
  pub prefix : p.prefix ≡ []
  pub ordered : AreInOrder 0 (kept_words p.words)

pub record IsShortValue (p : Piece) : Type 0 where
  pub is_value : p.is_text ≡ false
  pub short : length p.prefix ≤ 1000000

pub record IsOrderlyPiece (p : Piece) : Type 0 where
  pub path : p.path ≡ None
  pub kind : IsOrderlyText p ⊎ IsShortValue p

-- the positions that pieces take
abbrev pub spans : List Piece → ℕ
spans ps = sum_by (λ (p : Piece). end_after 0 p.words) ps

-- What pieces leave behind.
pub record Stand (ps : List Piece) : Type 0 where
  pub seen : (doc field : ℕ) → AllByRecursion (IsBeforeIn doc field (begin_after ps (text_at doc field [] []))) (tokens_after [] ps)
  pub groups : (q : Piece) → group_count ps q ≤ length (tokens_after [] ps)
  pub begins : (q : Piece) → begin_after ps q ≤ spans ps
  pub keys : AllByRecursion (λ (t : IndexToken). length t.key ≤ 1000000) (tokens_after [] ps)

pub stand_first : Stand []
stand_first = record { seen = λ doc field. tt; groups = λ q. omega arith; begins = λ q. omega arith; keys = tt }

tokens_of_text : (ps : List Piece) (p : Piece) → p.is_text ≡ true → piece_tokens ps p ≡ map (word_token p (begin_after ps p)) (kept_words p.words)
tokens_of_text ps p is = ap (λ (b : Bool). piece_tokens_from b (begin_after ps p) p) is

tokens_of_value : (ps : List Piece) (p : Piece) → p.is_text ≡ false → piece_tokens ps p ≡ value_token p ∷ []
tokens_of_value ps p is = ap (λ (b : Bool). piece_tokens_from b (begin_after ps p) p) is

pub spans_next : (ps : List Piece) (p : Piece) → spans (ps ++ p ∷ []) ≡ spans ps + end_after 0 p.words
spans_next ps p = omega (arith, sum_by-append (λ (q : Piece). end_after 0 q.words) ps (p ∷ []), sum_by-cons (λ (q : Piece). end_after 0 q.words) p [])

-- where a text begins after one more piece
begin_next : (ps : List Piece) (p q : Piece) → (begin_after ps q ≤ begin_after (ps ++ p ∷ []) q) × (begin_after (ps ++ p ∷ []) q ≤ begin_after ps q + end_after 0 p.words)
begin_next ps p q = by_case (is_same_group q p) refl
  where
    by_case : (b : Bool) → is_same_group q p ≡ b → (begin_after ps q ≤ begin_after (ps ++ p ∷ []) q) × (begin_after (ps ++ p ∷ []) q ≤ begin_after ps q + end_after 0 p.words)
    by_case true is = (omega (arith, begin_more ps p q true is, end_is (begin_after ps q) p.words), omega (arith, begin_more ps p q true is, end_is (begin_after ps q) p.words))
    by_case false is = (omega (arith, begin_more ps p q false is), omega (arith, begin_more ps p q false is))

seen_words : (p : Piece) (begin doc field most : ℕ) (ws : List Word) → (p.doc ≡ doc → p.field ≡ field → AllByRecursion (λ (w : Word). begin + w.position ≤ most) ws) → AllByRecursion (IsBeforeIn doc field most) (map (word_token p begin) ws)
seen_words p begin doc field most [] low = tt
seen_words p begin doc field most (w ∷ ws) low = (λ d f. (low d f).0, seen_words p begin doc field most ws (λ d f. (low d f).1))

same_text : (ps : List Piece) (p : Piece) (doc field : ℕ) → p.doc ≡ doc → p.field ≡ field → p.prefix ≡ [] → begin_after ps p ≡ begin_after ps (text_at doc field [] [])
same_text ps p doc field d f prefix =
    ap (λ (x : ℕ). begin_after ps (text_at x p.field p.prefix [])) d ∙ ap (λ (x : ℕ). begin_after ps (text_at doc x p.prefix [])) f ∙ ap (λ (x : List ℕ). begin_after ps (text_at doc field x [])) prefix

same_group : (p : Piece) (doc field : ℕ) → p.is_text ≡ true → p.doc ≡ doc → p.field ≡ field → p.prefix ≡ [] → is_same_group (text_at doc field [] []) p ≡ true
same_group p doc field is_text d f prefix = rw (is_text, eq-eqb p.doc doc d, eq-eqb p.field field f, prefix) refl

module _ (ps : List Piece) (p : Piece) (stand : Stand ps) (orderly : IsOrderlyPiece p) where
  new_seen : (doc field : ℕ) → AllByRecursion (IsBeforeIn doc field (begin_after (ps ++ p ∷ []) (text_at doc field [] []))) (piece_tokens ps p)
  new_seen doc field = by orderly.kind
    where
      by : IsOrderlyText p ⊎ IsShortValue p → AllByRecursion (IsBeforeIn doc field (begin_after (ps ++ p ∷ []) (text_at doc field [] []))) (piece_tokens ps p)
      by (inr value) = subst (AllByRecursion (IsBeforeIn doc field (begin_after (ps ++ p ∷ []) (text_at doc field [] [])))) (sym (tokens_of_value ps p value.is_value)) ((λ d f. omega arith), tt)
      by (inl text) =
          subst (AllByRecursion (IsBeforeIn doc field (begin_after (ps ++ p ∷ []) (text_at doc field [] [])))) (sym (tokens_of_text ps p text.is_text))
          (seen_words p (begin_after ps p) doc field (begin_after (ps ++ p ∷ []) (text_at doc field [] [])) (kept_words p.words)
          (λ d f.
          let t = text_at doc field [] [] in
          let more = begin_more ps p t true (same_group p doc field text.is_text d f text.prefix) in
          let same = same_text ps p doc field d f text.prefix in
          all_weaker (EndsBefore (fold (λ (end : ℕ) (w : Word). max end (0 + w.position + w.position_length)) 0 (kept_words p.words))) (λ (w : Word). begin_after ps p + w.position ≤ begin_after (ps ++ p ∷ []) t) (kept_words p.words)
          (λ w ends. omega (arith, ends, more, same, end_is (begin_after ps t) p.words)) (words_end 0 (kept_words p.words))))

  many_words : (q : Piece) → group_count (ps ++ p ∷ []) q ≤ group_count ps q + length (piece_tokens ps p)
  many_words q = by_case (is_same_group q p) refl orderly.kind
    where
      by_case : (b : Bool) → is_same_group q p ≡ b → IsOrderlyText p ⊎ IsShortValue p → group_count (ps ++ p ∷ []) q ≤ group_count ps q + length (piece_tokens ps p)
      by_case false is kind = omega (arith, group_more ps p q false is)
      by_case true is (inl text) = omega (arith, group_more ps p q true is, ap length (tokens_of_text ps p text.is_text), length-map (kept_words p.words) (word_token p (begin_after ps p)))
      by_case true is (inr value) = absurd (true≢false (sym is ∙ rw value.is_value refl))

  new_keys : AllByRecursion (λ (t : IndexToken). length t.key ≤ 1000000) (piece_tokens ps p)
  new_keys = by orderly.kind
    where
      short : (ws : List Word) → p.prefix ≡ [] → AllByRecursion (λ (t : IndexToken). length t.key ≤ 1000000) (map (word_token p (begin_after ps p)) (kept_words ws))
      short [] prefix = tt
      short (w ∷ ws) prefix = by_case (nat_le (length w.text) max_token_len) refl (short ws prefix)
        where
          by_case : (b : Bool) → nat_le (length w.text) max_token_len ≡ b → AllByRecursion (λ (t : IndexToken). length t.key ≤ 1000000) (map (word_token p (begin_after ps p)) (kept_words ws))
              → AllByRecursion (λ (t : IndexToken). length t.key ≤ 1000000) (map (word_token p (begin_after ps p)) (kept_words (w ∷ ws)))
          by_case true is rest = rw is (omega (arith, leb-true (length w.text) max_token_len is, ap (λ (xs : List ℕ). length (xs ++ w.text)) prefix), rest)
          by_case false is rest = rw is rest

      by : IsOrderlyText p ⊎ IsShortValue p → AllByRecursion (λ (t : IndexToken). length t.key ≤ 1000000) (piece_tokens ps p)
      by (inl text) = subst (AllByRecursion (λ (t : IndexToken). length t.key ≤ 1000000)) (sym (tokens_of_text ps p text.is_text)) (short p.words text.prefix)
      by (inr value) = subst (AllByRecursion (λ (t : IndexToken). length t.key ≤ 1000000)) (sym (tokens_of_value ps p value.is_value)) (value.short, tt)

  pub stand_next : Stand (ps ++ p ∷ [])
  stand_next = record {
    seen = λ doc field.
        let t = text_at doc field [] [] in
        let most = begin_after (ps ++ p ∷ []) t in
        subst (AllByRecursion (IsBeforeIn doc field most)) (sym (tokens_with ps p))
        (all_both (IsBeforeIn doc field most) (tokens_after [] ps) (piece_tokens ps p)
        (all_weaker (IsBeforeIn doc field (begin_after ps t)) (IsBeforeIn doc field most) (tokens_after [] ps) (λ u before d f. omega (arith, before d f, (begin_next ps p t).0)) (stand.seen doc field)) (new_seen doc field));
    groups = λ q. omega (arith, stand.groups q, many_words q, ap length (tokens_with ps p), length-append (tokens_after [] ps) (piece_tokens ps p));
    begins = λ q. omega (arith, stand.begins q, (begin_next ps p q).1, spans_next ps p);
    keys = subst (AllByRecursion (λ (t : IndexToken). length t.key ≤ 1000000)) (sym (tokens_with ps p)) (all_both (λ (t : IndexToken). length t.key ≤ 1000000) (tokens_after [] ps) (piece_tokens ps p) stand.keys new_keys);
  }

  -- the piece is taken
  pub piece_taken : (option : IndexRecordOption) → spans ps + end_after 0 p.words < u32_max → length (tokens_after [] (ps ++ p ∷ [])) < u32_max → piece_fault option ps p ≡ None
  piece_taken option few_positions few = ap (λ (path : Option (List ℕ)). first_fault (own_path_fault (known_paths ps) path) (piece_fault_from p.is_text option ps (tokens_after [] ps) p)) orderly.path ∙ by orderly.kind
    where
      fewer : length (tokens_after [] ps) + length (piece_tokens ps p) < u32_max
      fewer = omega (arith, few, ap length (tokens_with ps p), length-append (tokens_after [] ps) (piece_tokens ps p))

      by : IsOrderlyText p ⊎ IsShortValue p → piece_fault_from p.is_text option ps (tokens_after [] ps) p ≡ None
      by (inr value) =
          let ts = tokens_after [] ps in
          ap (λ (b : Bool). piece_fault_from b option ps ts p) value.is_value
          ∙ rw (lt-leb u64_max (field_count p.field ts) (omega (arith, fewer, count_by-le-length (λ (u : IndexToken). u.field == p.field) ts))) refl
      by (inl text) =
          let ts = tokens_after [] ps in
          let begin = begin_after ps p in
          let kept = kept_words p.words in
          let many : length (piece_tokens ps p) ≡ length kept = ap length (tokens_of_text ps p text.is_text) ∙ length-map kept (word_token p begin) in
          let end = end_is begin p.words in
          let ends : AllByRecursion (λ (w : Word). begin + (w.position + w.position_length) < u32_max) kept =
          all_weaker (EndsBefore (fold (λ (e : ℕ) (w : Word). max e (0 + w.position + w.position_length)) 0 kept)) (λ (w : Word). begin + (w.position + w.position_length) < u32_max) kept
          (λ w low. omega (arith, low, few_positions, stand.begins p)) (words_end 0 kept) in
          let same = same_text ps p p.doc p.field refl refl text.prefix in
          let seen : AllByRecursion (IsBeforeIn p.doc p.field (begin + 0)) ts =
          all_weaker (IsBeforeIn p.doc p.field (begin_after ps (text_at p.doc p.field [] []))) (IsBeforeIn p.doc p.field (begin + 0)) ts (λ u before d f. omega (arith, before d f, same)) (stand.seen p.doc p.field) in
          let taken = words_taken option p begin (group_count ps p) 0 ts kept ends text.ordered seen (omega (arith, fewer, many, stand.groups p)) (omega (arith, fewer, many)) in
          let at_end : nat_lt u32_max (end_after begin p.words) ≡ false = le-ltb u32_max (end_after begin p.words) (omega (arith, end, few_positions, stand.begins p)) in
          ap (λ (b : Bool). piece_fault_from b option ps ts p) text.is_text ∙ rw (taken, at_end) refl

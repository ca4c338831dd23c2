-- The numbers of tokens of documents in an index of segments, and their norms.
use Rattle.std.proofs.Common.{◌≡◌, ℕ, zero, suc, ◌+◌, ◌<◌, ◌≤◌, ◌≢◌, ◌==◌, ◌&&◌, Bool, true, false, true≢false, List, [], ◌∷◌, ◌++◌, get_or, length, map, take, nat_eq, refl, sym, ap, ◌∙◌, arith, ⊎_elim}
use Rattle.std.specs.Prelude.{filter, slice_index, sum, sum_by}
use Rattle.std.specs.List.{AllByRecursion, flat_map, range_with_len}
use Rattle.std.proofs.lemmas.Bool.{cases_lt, eq-eqb, eqb-false, eqb-true, ne_eqb}
use Rattle.std.proofs.lemmas.List.{length-map, map-append}
use Rattle.std.proofs.lemmas.List.FromFn.{get_or-map-range_with_len, length-range_with_len}
use Rattle.std.proofs.lemmas.List.Sums.{sum-map, sum_by-append, sum_by-cons}
use Rattle.std.proofs.lemmas.Simd.{map-map}
use Rattle.ii_fieldnorm.specs.Norms.{id_of_norm}
use Rattle.ii_alive.specs.Alive.{num_living, rank}
use Rattle.ii_alive.proofs.RankLemmas.{living_cons, one, rank_below, rank_strict}
use Rattle.ii_definitions.specs.Norms.{norm_ids}
use Rattle.ii_definitions.specs.Postings.{doc_count, field_count}
use Rattle.ii_definitions.specs.Tokens.{IndexToken}
use Rattle.ii_segments.specs.SegmentLaws.{CountsOfSegments}
use Rattle.ii_segments.specs.Segments.{Segment, at_rank, doc_counts, index_tokens, is_living, living_counts, living_docs, living_norms, living_tokens, num_docs_of, tokens_from}
use Rattle.ii_segments.proofs.MergeLaws.{all_append, below, living_below, of_living}
use Rattle.ii_definitions.proofs.ListLaws.{range_append}

-- ---- functions that agree
pub map_kept : {A B : Type 0} (f g : A → B) (p : A → Bool) (xs : List A) → ((x : A) → p x ≡ true → f x ≡ g x) → map f (filter p xs) ≡ map g (filter p xs)
map_kept f g p [] same = refl
map_kept f g p (x ∷ xs) same = by (p x) refl (map_kept f g p xs same)
  where
    by : (b : Bool) → p x ≡ b → map f (filter p xs) ≡ map g (filter p xs) → map f (filter p (x ∷ xs)) ≡ map g (filter p (x ∷ xs))
    by true kept others = rw kept (ap (λ (l : List _). f x ∷ l) others ∙ ap (λ y. y ∷ map g (filter p xs)) (same x kept))
    by false lost others = rw lost others

map_range : {B : Type 0} (f g : ℕ → B) (start n : ℕ) → ((d : ℕ) → start ≤ d → f d ≡ g d) → map f (range_with_len start n) ≡ map g (range_with_len start n)
map_range f g start zero same = refl
map_range f g start (suc n) same =
    ap (λ y. y ∷ map f (range_with_len (start + 1) n)) (same start (omega arith))
    ∙ ap (λ (l : List _). g start ∷ l) (map_range f g (start + 1) n (λ d after. same d (omega arith)))

pub map_all : {A B : Type 0} (f g : A → B) (xs : List A) → ((x : A) → f x ≡ g x) → map f xs ≡ map g xs
map_all f g [] same = refl
map_all f g (x ∷ xs) same = ap (λ y. y ∷ map f xs) (same x) ∙ ap (λ (l : List _). g x ∷ l) (map_all f g xs same)

-- ---- living documents and their ranks
pub living_within : (alive : List Bool) (doc : ℕ) → is_living alive doc ≡ true → doc < length alive
living_within [] doc living = absurd (true≢false (sym living))
living_within (b ∷ bs) zero living = omega arith
living_within (b ∷ bs) (suc doc) living = omega (arith, living_within bs doc living)

later_docs : (b : Bool) (bs : List Bool) (start n : ℕ) → filter (is_living (b ∷ bs)) (range_with_len (start + 1) n) ≡ map (λ (d : ℕ). d + 1) (filter (is_living bs) (range_with_len start n))
later_docs b bs start zero = refl
later_docs b bs start (suc n) = by (is_living bs start) refl (later_docs b bs (start + 1) n)
  where
    next : start + 1 ≡ suc start
    next = omega arith

    by : (c : Bool) → is_living bs start ≡ c
        → filter (is_living (b ∷ bs)) (range_with_len (start + 1 + 1) n) ≡ map (λ (d : ℕ). d + 1) (filter (is_living bs) (range_with_len (start + 1) n))
        → filter (is_living (b ∷ bs)) (range_with_len (start + 1) (suc n)) ≡ map (λ (d : ℕ). d + 1) (filter (is_living bs) (range_with_len start (suc n)))
    by true lives others = rw (ap (is_living (b ∷ bs)) next ∙ lives, lives) (ap (λ (l : List ℕ). (start + 1) ∷ l) others)
    by false dead others = rw (ap (is_living (b ∷ bs)) next ∙ dead, dead) others

later_ranks : (base : ℕ) (b : Bool) (bs : List Bool) → map (λ (d : ℕ). (base + one b) + rank bs d) (living_docs bs) ≡ range_with_len (base + one b) (num_living bs)
    → map (λ (d : ℕ). base + rank (b ∷ bs) d) (filter (is_living (b ∷ bs)) (range_with_len 1 (length bs))) ≡ range_with_len (base + one b) (num_living bs)
later_ranks base b bs others =
    ap (map (λ (d : ℕ). base + rank (b ∷ bs) d)) (later_docs b bs 0 (length bs))
    ∙ map-map (λ (d : ℕ). base + rank (b ∷ bs) d) (λ (d : ℕ). d + 1) (living_docs bs)
    ∙ map_all (λ (d : ℕ). base + rank (b ∷ bs) (d + 1)) (λ (d : ℕ). (base + one b) + rank bs d) (living_docs bs)
    (λ d. let next : d + 1 ≡ suc d = omega arith in omega (arith, ap (rank (b ∷ bs)) next, living_cons b (take d bs)))
    ∙ others

pub ranks_of_living : (base : ℕ) (alive : List Bool) → map (λ (d : ℕ). base + rank alive d) (living_docs alive) ≡ range_with_len base (num_living alive)
ranks_of_living base [] = refl
ranks_of_living base (b ∷ bs) = by b (later_ranks base b bs (ranks_of_living (base + one b) bs))
  where
    start : base + 0 ≡ base
    start = omega arith

    by : (c : Bool) → map (λ (d : ℕ). base + rank (c ∷ bs) d) (filter (is_living (c ∷ bs)) (range_with_len 1 (length bs))) ≡ range_with_len (base + one c) (num_living bs)
        → map (λ (d : ℕ). base + rank (c ∷ bs) d) (living_docs (c ∷ bs)) ≡ range_with_len base (num_living (c ∷ bs))
    by true others =
        let all : suc (num_living bs) ≡ num_living (true ∷ bs) = omega (arith, living_cons true bs) in
        ap (λ (l : List ℕ). (base + 0) ∷ l) others
        ∙ ap (λ (d : ℕ). d ∷ range_with_len (base + 1) (num_living bs)) start
        ∙ ap (range_with_len base) all
    by false others =
        let all : num_living bs ≡ num_living (false ∷ bs) = omega (arith, living_cons false bs) in
        others ∙ ap (λ (d : ℕ). range_with_len d (num_living bs)) start ∙ ap (range_with_len base) all

-- as many documents are alive as there are living ones
pub living_length : (alive : List Bool) → length (living_docs alive) ≡ num_living alive
living_length alive = sym (length-map (living_docs alive) (λ (d : ℕ). 0 + rank alive d)) ∙ ap length (ranks_of_living 0 alive) ∙ length-range_with_len 0 (num_living alive)

-- ---- counts of documents
-- a document that no token has
none_counted : (doc field : ℕ) (ts : List IndexToken) → AllByRecursion (λ (t : IndexToken). t.doc ≢ doc) ts → doc_count doc field ts ≡ 0
none_counted doc field [] apart = refl
none_counted doc field (t ∷ ts) apart =
    let other : nat_eq t.doc doc ≡ false = ne_eqb t.doc doc apart.0 in
    let step = sum_by-cons (λ (u : IndexToken). one ((u.doc == doc) && (u.field == field))) t ts in
    let nothing : one ((t.doc == doc) && (t.field == field)) ≡ 0 = ap (λ (b : Bool). one (b && (t.field == field))) other in
    omega (arith, step, nothing, none_counted doc field ts apart.1)

pub all_weaker : {P Q : IndexToken → Type 0} (ts : List IndexToken) → ((t : IndexToken) → P t → Q t) → AllByRecursion P ts → AllByRecursion Q ts
all_weaker [] weaker all = tt
all_weaker (t ∷ ts) weaker all = (weaker t all.0, all_weaker ts weaker all.1)

pub living_after : (base : ℕ) (alive : List Bool) (ts : List IndexToken) → AllByRecursion (λ (t : IndexToken). base ≤ t.doc) (map (at_rank base alive) (filter (of_living alive) ts))
living_after base alive [] = tt
living_after base alive (t ∷ ts) = by (of_living alive t) refl (living_after base alive ts)
  where
    by : (b : Bool) → of_living alive t ≡ b → AllByRecursion (λ (u : IndexToken). base ≤ u.doc) (map (at_rank base alive) (filter (of_living alive) ts))
        → AllByRecursion (λ (u : IndexToken). base ≤ u.doc) (map (at_rank base alive) (filter (of_living alive) (t ∷ ts)))
    by true lives others = rw lives (omega arith, others)
    by false dead others = rw dead others

pub tokens_after : (base : ℕ) (ss : List Segment) → AllByRecursion (λ (t : IndexToken). base ≤ t.doc) (tokens_from base ss)
tokens_after base [] = tt
tokens_after base (s ∷ ss) =
    let n = num_living s.alive in
    all_append (λ (t : IndexToken). base ≤ t.doc) (living_tokens base s) (tokens_from (base + n) ss) (living_after base s.alive s.tokens)
    (all_weaker (tokens_from (base + n) ss) (λ t after. omega arith) (tokens_after (base + n) ss))

-- the tokens of a living document
module _ (base : ℕ) (alive : List Bool) (doc field : ℕ) (lives : is_living alive doc ≡ true) where
  apart_by_rank : (other : ℕ) → is_living alive other ≡ true → other ≢ doc → base + rank alive other ≢ base + rank alive doc
  apart_by_rank other living differ same =
      ⊎_elim
      (λ (before : other < doc). omega (arith, same, rank_strict alive other doc living before))
      (λ (after : doc ≤ other). let beyond : doc < other = omega (arith, differ) in omega (arith, same, rank_strict alive doc other lives beyond))
      (cases_lt other doc)

  pub test_by_rank : (other : ℕ) → is_living alive other ≡ true → nat_eq (base + rank alive other) (base + rank alive doc) ≡ nat_eq other doc
  test_by_rank other living = by (nat_eq other doc) refl
    where
      by : (b : Bool) → nat_eq other doc ≡ b → nat_eq (base + rank alive other) (base + rank alive doc) ≡ nat_eq other doc
      by true is = eq-eqb (base + rank alive other) (base + rank alive doc) (ap (λ (d : ℕ). base + rank alive d) (eqb-true other doc is)) ∙ sym is
      by false not = ne_eqb (base + rank alive other) (base + rank alive doc) (apart_by_rank other living (eqb-false other doc not)) ∙ sym not

  count_of_living : (ts : List IndexToken) → doc_count (base + rank alive doc) field (map (at_rank base alive) (filter (of_living alive) ts)) ≡ doc_count doc field ts
  count_of_living [] = refl
  count_of_living (t ∷ ts) = by (of_living alive t) refl (count_of_living ts)
    where
      rest : List IndexToken
      rest = map (at_rank base alive) (filter (of_living alive) ts)

      own : doc_count doc field (t ∷ ts) ≡ one ((t.doc == doc) && (t.field == field)) + doc_count doc field ts
      own = sum_by-cons (λ (u : IndexToken). one ((u.doc == doc) && (u.field == field))) t ts

      by : (b : Bool) → of_living alive t ≡ b → doc_count (base + rank alive doc) field (map (at_rank base alive) (filter (of_living alive) ts)) ≡ doc_count doc field ts
          → doc_count (base + rank alive doc) field (map (at_rank base alive) (filter (of_living alive) (t ∷ ts))) ≡ doc_count doc field (t ∷ ts)
      by true living others = rw living
          (sum_by-cons (λ (u : IndexToken). one ((u.doc == base + rank alive doc) && (u.field == field))) (at_rank base alive t) (map (at_rank base alive) (filter (of_living alive) ts))
          ∙ ap (λ (b : Bool). one (b && (t.field == field)) + doc_count (base + rank alive doc) field (map (at_rank base alive) (filter (of_living alive) ts))) (test_by_rank t.doc living)
          ∙ ap (λ (n : ℕ). one ((t.doc == doc) && (t.field == field)) + n) others
          ∙ sym own)
      by false dead others =
          let other : nat_eq t.doc doc ≡ false = ne_eqb t.doc doc (λ same. true≢false (sym lives ∙ ap (is_living alive) (sym same) ∙ dead)) in
          let nothing : one ((t.doc == doc) && (t.field == field)) ≡ 0 = ap (λ (b : Bool). one (b && (t.field == field))) other in
          rw dead (others ∙ (let added : doc_count doc field ts ≡ one ((t.doc == doc) && (t.field == field)) + doc_count doc field ts = omega (arith, nothing) in added) ∙ sym own)

-- ---- the documents of segments, one after the other
module _ (field : ℕ) where
  abbrev count_in : List IndexToken → ℕ → ℕ
  count_in ts doc = doc_count doc field ts

  count_of_both : (doc : ℕ) (xs ys : List IndexToken) → doc_count doc field (xs ++ ys) ≡ doc_count doc field xs + doc_count doc field ys
  count_of_both doc xs ys = sum_by-append (λ (t : IndexToken). one ((t.doc == doc) && (t.field == field))) xs ys

  read_count : (n : ℕ) (ts : List IndexToken) (doc : ℕ) → doc < n → get_or (doc_counts n field ts) doc 0 ≡ doc_count doc field ts
  read_count n ts doc within = get_or-map-range_with_len (count_in ts) 0 n doc doc 0 within (omega arith)

  read_norm : (n : ℕ) (ts : List IndexToken) (doc : ℕ) → doc < n → get_or (norm_ids n field ts) doc 0 ≡ id_of_norm (doc_count doc field ts)
  read_norm n ts doc within = get_or-map-range_with_len (λ (d : ℕ). id_of_norm (doc_count d field ts)) 0 n doc doc 0 within (omega arith)

  count_of_doc : (base : ℕ) (s : Segment) (ss : List Segment) (doc : ℕ) → is_living s.alive doc ≡ true
      → doc_count (base + rank s.alive doc) field (tokens_from base (s ∷ ss)) ≡ get_or (doc_counts (length s.alive) field s.tokens) doc 0
  count_of_doc base s ss doc living =
      let n = num_living s.alive in
      let number = base + rank s.alive doc in
      let later = tokens_from (base + n) ss in
      let small = rank_below s.alive doc living in
      let none : doc_count number field later ≡ 0 = none_counted number field later (all_weaker later (λ t after same. omega (arith, after, same, small)) (tokens_after (base + n) ss)) in
      omega (arith, count_of_both number (living_tokens base s) later, count_of_living base s.alive doc field living s.tokens, none, read_count (length s.alive) s.tokens doc (living_within s.alive doc living))

  counts_of_first : (base : ℕ) (s : Segment) (ss : List Segment) → map (count_in (tokens_from base (s ∷ ss))) (range_with_len base (num_living s.alive)) ≡ living_counts field s
  counts_of_first base s ss =
      let count = count_in (tokens_from base (s ∷ ss)) in
      ap (map count) (sym (ranks_of_living base s.alive))
      ∙ map-map count (λ (d : ℕ). base + rank s.alive d) (living_docs s.alive)
      ∙ map_kept (λ (d : ℕ). count (base + rank s.alive d)) (slice_index (doc_counts (length s.alive) field s.tokens)) (is_living s.alive) (range_with_len 0 (length s.alive))
      (λ d living. count_of_doc base s ss d living)

  counts_from : (base : ℕ) (ss : List Segment) → map (count_in (tokens_from base ss)) (range_with_len base (num_docs_of ss)) ≡ flat_map (living_counts field) ss
  counts_from base [] = refl
  counts_from base (s ∷ ss) =
      let n = num_living s.alive in
      let count = count_in (tokens_from base (s ∷ ss)) in
      let own = living_tokens base s in
      let later = tokens_from (base + n) ss in
      let others : map count (range_with_len (base + n) (num_docs_of ss)) ≡ flat_map (living_counts field) ss =
      map_range count (count_in later) (base + n) (num_docs_of ss)
      (λ d after. let none : doc_count d field own ≡ 0 = none_counted d field own (all_weaker own (λ t before same. omega (arith, before, same, after)) (living_below base (base + n) s.alive s.tokens (omega arith))) in
      omega (arith, count_of_both d own later, none))
      ∙ counts_from (base + n) ss in
      ap (map count) (range_append base n (num_docs_of ss))
      ∙ map-append count (range_with_len base n) (range_with_len (base + n) (num_docs_of ss))
      ∙ ap (λ (l : List ℕ). l ++ map count (range_with_len (base + n) (num_docs_of ss))) (counts_of_first base s ss)
      ∙ ap (λ (l : List ℕ). living_counts field s ++ l) others

  norms_of_counts : (n : ℕ) (ts : List IndexToken) → norm_ids n field ts ≡ map id_of_norm (doc_counts n field ts)
  norms_of_counts n ts = sym (map-map id_of_norm (count_in ts) (range_with_len 0 n))

  living_norms_of_counts : (s : Segment) → map id_of_norm (living_counts field s) ≡ living_norms field s
  living_norms_of_counts s =
      let n = length s.alive in
      map-map id_of_norm (slice_index (doc_counts n field s.tokens)) (living_docs s.alive)
      ∙ map_kept (λ (d : ℕ). id_of_norm (slice_index (doc_counts n field s.tokens) d)) (slice_index (norm_ids n field s.tokens)) (is_living s.alive) (range_with_len 0 n)
      (λ d living.
      let within = living_within s.alive d living in
      ap id_of_norm (read_count n s.tokens d within) ∙ sym (read_norm n s.tokens d within))

  norms_from : (ss : List Segment) → map id_of_norm (flat_map (living_counts field) ss) ≡ flat_map (living_norms field) ss
  norms_from [] = refl
  norms_from (s ∷ ss) =
      map-append id_of_norm (living_counts field s) (flat_map (living_counts field) ss)
      ∙ ap (λ (l : List ℕ). l ++ map id_of_norm (flat_map (living_counts field) ss)) (living_norms_of_counts s)
      ∙ ap (λ (l : List ℕ). living_norms field s ++ l) (norms_from ss)

-- ---- a field's tokens are those of its documents
sum_none : (f : ℕ → ℕ) (start n : ℕ) → ((d : ℕ) → start ≤ d → f d ≡ 0) → sum_by f (range_with_len start n) ≡ 0
sum_none f start zero none = refl
sum_none f start (suc n) none = omega (arith, sum_by-cons f start (range_with_len (start + 1) n), none start (omega arith), sum_none f (start + 1) n (λ d after. none d (omega arith)))

sum_both : (f g h : ℕ → ℕ) (xs : List ℕ) → ((d : ℕ) → h d ≡ f d + g d) → sum_by h xs ≡ sum_by f xs + sum_by g xs
sum_both f g h [] both = refl
sum_both f g h (x ∷ xs) both = omega (arith, sum_by-cons f x xs, sum_by-cons g x xs, sum_by-cons h x xs, both x, sum_both f g h xs both)

sum_once : (doc : ℕ) (test : Bool) (start n : ℕ) → start ≤ doc → doc < start + n → sum_by (λ (d : ℕ). one ((doc == d) && test)) (range_with_len start n) ≡ one test
sum_once doc test start zero after before = absurd (omega arith)
sum_once doc test start (suc n) after before =
    by (nat_eq doc start) refl (sum_by-cons (λ (d : ℕ). one ((doc == d) && test)) start (range_with_len (start + 1) n)) (λ (within : start + 1 ≤ doc). sum_once doc test (start + 1) n within (omega arith))
  where
    by : (b : Bool) → nat_eq doc start ≡ b
        → sum_by (λ (d : ℕ). one ((doc == d) && test)) (range_with_len start (suc n)) ≡ one ((doc == start) && test) + sum_by (λ (d : ℕ). one ((doc == d) && test)) (range_with_len (start + 1) n)
        → (start + 1 ≤ doc → sum_by (λ (d : ℕ). one ((doc == d) && test)) (range_with_len (start + 1) n) ≡ one test)
        → sum_by (λ (d : ℕ). one ((doc == d) && test)) (range_with_len start (suc n)) ≡ one test
    by true is step others =
        let same : doc ≡ start = eqb-true doc start is in
        let none : sum_by (λ (d : ℕ). one ((doc == d) && test)) (range_with_len (start + 1) n) ≡ 0 =
        sum_none (λ (d : ℕ). one ((doc == d) && test)) (start + 1) n
        (λ d beyond. ap (λ (c : Bool). one (c && test)) (ne_eqb doc d (λ equal. omega (arith, beyond, equal, same)))) in
        let own : one ((doc == start) && test) ≡ one test = ap (λ (c : Bool). one (c && test)) is in
        omega (arith, step, none, own)
    by false not step others =
        let differ : doc ≢ start = eqb-false doc start not in
        let own : one ((doc == start) && test) ≡ 0 = ap (λ (c : Bool). one (c && test)) not in
        omega (arith, step, own, others (omega (arith, differ)))

total_of_counts : (field n : ℕ) (ts : List IndexToken) → AllByRecursion (λ (t : IndexToken). t.doc < n) ts → field_count field ts ≡ sum_by (λ (d : ℕ). doc_count d field ts) (range_with_len 0 n)
total_of_counts field n [] within = sym (sum_none (λ (d : ℕ). doc_count d field []) 0 n (λ d after. refl))
total_of_counts field n (t ∷ ts) within =
    let first = sum_by-cons (λ (u : IndexToken). one (u.field == field)) t ts in
    let both = sum_both (λ (d : ℕ). one ((t.doc == d) && (t.field == field))) (λ (d : ℕ). doc_count d field ts) (λ (d : ℕ). doc_count d field (t ∷ ts)) (range_with_len 0 n)
    (λ d. sum_by-cons (λ (u : IndexToken). one ((u.doc == d) && (u.field == field))) t ts) in
    let small : t.doc < 0 + n = omega (arith, within.0) in
    let own = sum_once t.doc (t.field == field) 0 n (omega arith) small in
    omega (arith, first, both, own, total_of_counts field n ts within.1)

pub counts_of_segments : (field : ℕ) (ss : List Segment) → CountsOfSegments field ss
counts_of_segments field ss =
    let n = num_docs_of ss in
    let ts = index_tokens ss in
    record {
      counts = counts_from field 0 ss;
      norms = norms_of_counts field n ts ∙ ap (map id_of_norm) (counts_from field 0 ss) ∙ norms_from field ss;
      total = total_of_counts field n ts (below 0 n ss (omega arith)) ∙ sym (sum-map (λ (d : ℕ). doc_count d field ts) (range_with_len 0 n)) ∙ ap sum (counts_from field 0 ss);
    }

-- What the blocks of the most frequent documents are, in other words.
use Rattle.std.proofs.Common.{◌≡◌, ◌∙◌, ℕ, zero, suc, ◌+◌, ◌-◌, ◌^◌, ◌<◌, ◌≤◌, ◌⊎◌, inl, inr, Bool, true, false, ◌==◌, List, [], ◌∷◌, filter, length, min, nat_le, nat_lt, take, if◌then◌else◌, refl, ap, arith}
use Rattle.std.specs.List.{AllByRecursion, fold, range_with_len, sum_by}
use Rattle.std.proofs.lemmas.List.Sums.{sum_by-cons}
use Rattle.std.proofs.lemmas.Bool.{and_parts, leb-true, leb-false, le-leb, lt-leb, lt-ltb, ltb-true, ne_eqb, le-ltb}
use Rattle.ii_base.specs.Entries.{Entry}
use Rattle.ii_check.specs.CheckedPostings.{excludes}
use Rattle.ii_reader.specs.Bounds.{freq_bound}
use Rattle.ii_reader.specs.SegmentPostings.{SegmentPostingsState}
use Rattle.ii_search.specs.TopByCount.{AllowsTop, before_block, blocks_for_top, by_count, least_count, needed, placed, top}
use Rattle.ii_promises.specs.HopelessBlocks.{hopeful_blocks, is_hopeless, is_hopeless_block}

-- A count in a row is below one.
abbrev IsBelow : ℕ → ℕ × ℕ → Type 0
IsBelow x b = b.1 < x

-- The counts of at least x come first.
abbrev ComeFirst : ℕ → List (ℕ × ℕ) → Type 0
ComeFirst x [] = Unit {0}
ComeFirst x (b ∷ bs) = ((x ≤ b.1) × ComeFirst x bs) ⊎ AllByRecursion (IsBelow x) (b ∷ bs)

below_placed : (x : ℕ) (e : ℕ × ℕ) (bs : List (ℕ × ℕ)) → e.1 < x → AllByRecursion (IsBelow x) bs → AllByRecursion (IsBelow x) (placed e bs)
below_placed x e [] low all = (low, tt)
below_placed x e (b ∷ bs) low all = by (nat_le e.1 b.1) (below_placed x e bs low all.1)
  where
    by : (t : Bool) → AllByRecursion (IsBelow x) (placed e bs) → AllByRecursion (IsBelow x) (if t then b ∷ placed e bs else e ∷ b ∷ bs)
    by true later = (all.0, later)
    by false later = (low, all)

first_placed : (x : ℕ) (e : ℕ × ℕ) (bs : List (ℕ × ℕ)) → ComeFirst x bs → ComeFirst x (placed e bs)
first_placed x e [] first = own (nat_le x e.1) refl
  where
    own : (t : Bool) → nat_le x e.1 ≡ t → ComeFirst x (e ∷ [])
    own true test = inl (leb-true x e.1 test, tt)
    own false test = inr (leb-false x e.1 test, tt)
first_placed x e (b ∷ bs) (inl high) = by (nat_le e.1 b.1) refl (first_placed x e bs high.1)
  where
    by : (t : Bool) → nat_le e.1 b.1 ≡ t → ComeFirst x (placed e bs) → ComeFirst x (if t then b ∷ placed e bs else e ∷ b ∷ bs)
    by true test later = inl (high.0, later)
    by false test later = let more = leb-false e.1 b.1 test in inl (omega (arith, more, high.0), inl high)
first_placed x e (b ∷ bs) (inr low) = by (nat_le e.1 b.1) refl (nat_le x e.1) refl
  where
    by : (t : Bool) → nat_le e.1 b.1 ≡ t → (s : Bool) → nat_le x e.1 ≡ s → ComeFirst x (if t then b ∷ placed e bs else e ∷ b ∷ bs)
    by true test s own = let less = leb-true e.1 b.1 test in inr (low.0, below_placed x e bs (omega (arith, less, low.0)) low.1)
    by false test true own = inl (leb-true x e.1 own, inr low)
    by false test false own = inr (leb-false x e.1 own, low)

-- how many counts of a row are at least x
abbrev many : ℕ → List (ℕ × ℕ) → ℕ
many x [] = 0
many x (b ∷ bs) = if nat_le x b.1 then suc (many x bs) else many x bs

many_placed : (x : ℕ) (e : ℕ × ℕ) (bs : List (ℕ × ℕ)) → many x (placed e bs) ≡ many x (e ∷ bs)
many_placed x e [] = refl
many_placed x e (b ∷ bs) = by (nat_le e.1 b.1) (many_placed x e bs)
  where
    by : (t : Bool) → many x (placed e bs) ≡ many x (e ∷ bs) → many x (if t then b ∷ placed e bs else e ∷ b ∷ bs) ≡ many x (e ∷ b ∷ bs)
    by true later = in_turn (nat_le x b.1) (nat_le x e.1) later
      where
        in_turn : (s t : Bool) → many x (placed e bs) ≡ (if t then suc (many x bs) else many x bs) → (if s then suc (many x (placed e bs)) else many x (placed e bs)) ≡ (if t then suc (if s then suc (many x bs) else many x bs) else (if s then suc (many x bs) else many x bs))
        in_turn true true is = ap suc is
        in_turn true false is = ap suc is
        in_turn false true is = is
        in_turn false false is = is
    by false later = refl

none_many : (x : ℕ) (bs : List (ℕ × ℕ)) → AllByRecursion (IsBelow x) bs → many x bs ≡ 0
none_many x [] all = refl
none_many x (b ∷ bs) all = rw (lt-leb x b.1 all.0) (none_many x bs all.1)

-- the first n of a row with n such counts
module _ (x : ℕ) where
  full : (n : ℕ) (bs : List (ℕ × ℕ)) → ComeFirst x bs → n ≤ many x bs → (length (take n bs) ≡ n) × ((from : ℕ) → x ≤ from → x ≤ fold (λ (least : ℕ) (b : ℕ × ℕ). min least b.1) from (take n bs))
  full zero bs first enough = (refl, λ from high. high)
  full (suc n) [] first enough = absurd (omega (arith, enough))
  full (suc n) (b ∷ bs) (inl high) enough =
      let later = full n bs high.1 (omega (arith, (rw (le-leb x b.1 high.0) at enough))) in
      (ap suc later.0, λ from above. later.1 (min from b.1) (omega (arith, above, high.0)))
  full (suc n) (b ∷ bs) (inr low) enough = let none = none_many x (b ∷ bs) low in absurd (omega (arith, enough, none))

-- entries in order of their counts
counted : (x : ℕ) (es : List Entry) (bs : List (ℕ × ℕ)) → ComeFirst x bs → ComeFirst x (fold (λ (sorted : List (ℕ × ℕ)) (e : Entry). placed (e.doc, e.term_freq) sorted) bs es)
    × (many x (fold (λ (sorted : List (ℕ × ℕ)) (e : Entry). placed (e.doc, e.term_freq) sorted) bs es) ≡ length (filter (λ (e : Entry). nat_le x e.term_freq) es) + many x bs)
counted x [] bs first = (first, omega arith)
counted x (e ∷ es) bs first =
    let later = counted x es (placed (e.doc, e.term_freq) bs) (first_placed x (e.doc, e.term_freq) bs first) in
    (later.0, later.1 ∙ ap (λ (k : ℕ). length (filter (λ (f : Entry). nat_le x f.term_freq) es) + k) (many_placed x (e.doc, e.term_freq) bs) ∙ by (nat_le x e.term_freq) refl)
  where
    by : (t : Bool) → nat_le x e.term_freq ≡ t → length (filter (λ (f : Entry). nat_le x f.term_freq) es) + many x ((e.doc, e.term_freq) ∷ bs) ≡ length (filter (λ (f : Entry). nat_le x f.term_freq) (e ∷ es)) + many x bs
    by true test = rw test (omega arith)
    by false test = rw test refl

-- a block with a bound that n documents before it reach isn't needed
hopeless : (n bound : ℕ) (es : List Entry) → nat_lt 0 bound ≡ true → nat_lt bound (2 ^ 32 - 1) ≡ true → nat_le n (length (filter (λ (e : Entry). nat_le bound e.term_freq) es)) ≡ true → excludes (needed n (top n es)) bound ≡ true
hopeless n bound es some low enough =
    let more = ltb-true 0 bound some in
    let less = ltb-true bound (2 ^ 32 - 1) low in
    let c = counted bound es [] tt in
    let many_is = c.1 in
    let f = full bound n (by_count es) c.0 (let reach = leb-true n (length (filter (λ (e : Entry). nat_le bound e.term_freq) es)) enough in omega (arith, reach, many_is)) in
    let size = f.0 in
    let least = f.1 (2 ^ 32 - 1) (omega (arith, less)) in
    let whole : nat_lt (length (top n es)) n ≡ false = not_less (omega (arith, size)) in
    rw (ne_zero more, whole, lt-ltb bound (min (2 ^ 32 - 1) (least_count (top n es) + 1)) (omega (arith, less, least))) refl
  where
    not_less : n ≤ length (top n es) → nat_lt (length (top n es)) n ≡ false
    not_less le = le-ltb (length (top n es)) n le

    ne_zero : 0 < bound → (bound == 0) ≡ false
    ne_zero more = ne_eqb bound 0 (λ same. omega (arith, same, more))

-- no more blocks are needed than aren't hopeless
sum_less : (f g : ℕ → ℕ) (start size : ℕ) → ((k : ℕ) → f k ≤ g k) → sum_by f (range_with_len start size) ≤ sum_by g (range_with_len start size)
sum_less f g start zero less = omega arith
sum_less f g start (suc size) less =
    let here = less start in
    let later = sum_less f g (start + 1) size less in
    omega (arith, here, later, sum_by-cons f start (range_with_len (start + 1) size), sum_by-cons g start (range_with_len (start + 1) size))

pub few_needed : (n : ℕ) (s : SegmentPostingsState) (to : ℕ) → blocks_for_top n s to ≤ hopeful_blocks n s to
few_needed n s to = sum_less _ _ (s.block + 1) (to - s.block) (λ b. each b (is_hopeless n (freq_bound s.bounds b) (before_block s b)) refl)
  where
    at_most : (t : Bool) → (if t then 0 else 1) ≤ 1
    at_most true = omega arith
    at_most false = omega arith

    each : (b : ℕ) (t : Bool) → is_hopeless n (freq_bound s.bounds b) (before_block s b) ≡ t
        → (if excludes (needed n (top n (before_block s b))) (freq_bound s.bounds b) then 0 else 1) ≤ (if is_hopeless n (freq_bound s.bounds b) (before_block s b) then 0 else 1)
    each b true test =
        let p = and_parts _ _ test in
        let q = and_parts _ _ p.1 in
        rw (test, hopeless n (freq_bound s.bounds b) (before_block s b) p.0 q.0 q.1) (omega arith)
    each b false test = rw test (at_most (excludes (needed n (top n (before_block s b))) (freq_bound s.bounds b)))

-- a block that may have one of the first n isn't hopeless
pub not_hopeless : (n : ℕ) (s : SegmentPostingsState) (block : ℕ) → AllowsTop n s block → is_hopeless_block n s block ≡ false
not_hopeless n s block allowed = by (is_hopeless_block n s block) refl
  where
    by : (t : Bool) → is_hopeless_block n s block ≡ t → t ≡ false
    by true test =
        let p = and_parts _ _ test in
        let q = and_parts _ _ p.1 in
        let wrong = hopeless n (freq_bound s.bounds block) (before_block s block) p.0 q.0 q.1 in
        absurd (cc)
    by false test = refl

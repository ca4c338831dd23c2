-- Results one after the other, each of which must be there.
use Rattle.std.proofs.Common.{◌≡◌, ℕ, zero, suc, ◌+◌, ◌<◌, List, [], ◌∷◌, ◌++◌, length, map, Result, Ok, Err, refl, sym, ap, ◌∙◌, arith}
use Rattle.std.specs.Prelude.{slice_index}
use Rattle.std.specs.List.{range_with_len}
use Rattle.ii_io.specs.declared.faults.Part.{Part}
use Rattle.ii_io.specs.Parts.{◌>>=◌}
use Rattle.ii_reader.specs.OpenIndex.{all_or_first}

-- a first result that is there, and what comes after it
record HasFirst {A : Type 0} (found : Result A Part) (others : Result (List A) Part) (xs : List A) : Type 0 where
  first : A
  rest : List A
  found_is : found ≡ Ok first
  others_are : others ≡ Ok rest
  list_is : xs ≡ first ∷ rest

first_of : {A : Type 0} (found : Result A Part) (others : Result (List A) Part) (xs : List A) → (found >>= λ (x : A). others >>= λ (ys : List A). Ok (x ∷ ys)) ≡ Ok xs → HasFirst found others xs
first_of (Ok x) (Ok ys) xs is = record { first = x; rest = ys; found_is = refl; others_are = refl; list_is = cc }
first_of (Ok x) (Err part) xs is = absurd (cc)
first_of (Err part) others xs is = absurd (cc)

-- one more result
pub all_more : {A : Type 0} (rs : List (Result A Part)) (r : Result A Part) (ys : List A) (y : A) → all_or_first rs ≡ Ok ys → r ≡ Ok y → all_or_first (rs ++ r ∷ []) ≡ Ok (ys ++ y ∷ [])
all_more [] r ys y is last = let e : [] ≡ ys = cc in rw last (ap (λ (ws : List _). Ok (ws ++ y ∷ [])) e)
all_more (s ∷ rs) r ys y is last =
    let h = first_of s (all_or_first rs) ys is in
    rw (h.found_is, all_more rs r h.rest y h.others_are last) (ap (λ (ws : List _). Ok (ws ++ y ∷ [])) (sym h.list_is))

-- the first one that is missing
pub all_cut : {A : Type 0} (rs : List (Result A Part)) (r : Result A Part) (more : List (Result A Part)) (ys : List A) (part : Part) → all_or_first rs ≡ Ok ys → r ≡ Err part → all_or_first (rs ++ r ∷ more) ≡ Err part
all_cut [] r more ys part is last = rw last refl
all_cut (s ∷ rs) r more ys part is last =
    let h = first_of s (all_or_first rs) ys is in
    rw (h.found_is, all_cut rs r more h.rest part h.others_are last) refl

-- the results of numbers, up to one of them
record IsSplitAt {A : Type 0} (F : ℕ → A) (first k n : ℕ) : Type 0 where
  rest : List A
  is : map F (range_with_len first n) ≡ map F (range_with_len first k) ++ F (first + k) ∷ rest

split_at : {A : Type 0} (F : ℕ → A) (first k n : ℕ) → k < n → IsSplitAt F first k n
split_at F first zero zero low = absurd (omega (arith, low))
split_at F first (suc k) zero low = absurd (omega (arith, low))
split_at F first zero (suc n) low = record { rest = map F (range_with_len (first + 1) n); is = let same : first ≡ first + 0 = omega arith in ap (λ (i : ℕ). F i ∷ map F (range_with_len (first + 1) n)) same }
split_at F first (suc k) (suc n) low =
    let h = split_at F (first + 1) k n (omega (arith, low)) in
    let same : first + 1 + k ≡ first + suc k = omega arith in
    record {
      rest = h.rest;
      is = ap (λ (xs : List _). F first ∷ xs) (h.is ∙ ap (λ (i : ℕ). map F (range_with_len (first + 1) k) ++ F i ∷ h.rest) same);
    }

pub numbers_cut : {A : Type 0} (F : ℕ → Result A Part) (k n : ℕ) (ys : List A) (part : Part) → k < n → all_or_first (map F (range_with_len 0 k)) ≡ Ok ys → F k ≡ Err part → all_or_first (map F (range_with_len 0 n)) ≡ Err part
numbers_cut F k n ys part low is last =
    let h = split_at F 0 k n low in
    let same : 0 + k ≡ k = omega arith in
    ap all_or_first h.is ∙ all_cut (map F (range_with_len 0 k)) (F (0 + k)) h.rest ys part is (ap F same ∙ last)

-- all results of numbers are there
pub record AreFound (F : ℕ → Result ℕ Part) (first n : ℕ) (xs : List ℕ) : Type 0 where
  pub many : length xs ≡ n
  pub each : (i : ℕ) → i < n → F (first + i) ≡ Ok (slice_index xs i)

pub found_are : (F : ℕ → Result ℕ Part) (first n : ℕ) (xs : List ℕ) → all_or_first (map F (range_with_len first n)) ≡ Ok xs → AreFound F first n xs
found_are F first zero xs is = let e : [] ≡ xs = cc in record { many = ap length (sym e); each = λ i low. absurd (omega (arith, low)) }
found_are F first (suc n) xs is =
    let h = first_of (F first) (all_or_first (map F (range_with_len (first + 1) n))) xs is in
    let more = found_are F (first + 1) n h.rest h.others_are in
    record { many = ap length h.list_is ∙ ap suc more.many; each = λ i low. ap (λ (r : Result ℕ Part). r) (by h more i low) }
  where
    by : (h : HasFirst (F first) (all_or_first (map F (range_with_len (first + 1) n))) xs) → AreFound F (first + 1) n h.rest → (i : ℕ) → i < suc n → F (first + i) ≡ Ok (slice_index xs i)
    by h more zero low = let same : first + 0 ≡ first = omega arith in ap F same ∙ h.found_is ∙ ap (λ (ws : List ℕ). Ok (slice_index ws 0)) (sym h.list_is)
    by h more (suc i) low = let same : first + suc i ≡ first + 1 + i = omega arith in ap F same ∙ more.each i (omega (arith, low)) ∙ ap (λ (ws : List ℕ). Ok (slice_index ws (suc i))) (sym h.list_is)

-- results of numbers that are all there are no damage
pub none_missing : (F : ℕ → Result ℕ Part) (G : ℕ → ℕ) (first n : ℕ) (part : Part) → ((i : ℕ) → i < n → F (first + i) ≡ Ok (G i)) → all_or_first (map F (range_with_len first n)) ≡ Err part → ⊥
none_missing F G first zero part each is = absurd (cc)
none_missing F G first (suc n) part each is =
    let here : F first ≡ Ok (G 0) = let same : first ≡ first + 0 = omega arith in ap F same ∙ each 0 (omega arith) in
    after (F first) (all_or_first (map F (range_with_len (first + 1) n))) here is
    (λ p more. none_missing F (λ (i : ℕ). G (suc i)) (first + 1) n p (λ i low. let same : first + 1 + i ≡ first + suc i = omega arith in ap F same ∙ each (suc i) (omega (arith, low))) more)
  where
    after : (found : Result ℕ Part) (others : Result (List ℕ) Part) → found ≡ Ok (G 0) → (found >>= λ (x : ℕ). others >>= λ (ys : List ℕ). Ok (x ∷ ys)) ≡ Err part → ((p : Part) → others ≡ Err p → ⊥) → ⊥
    after (Ok x) (Ok ys) here is missing = absurd (cc)
    after (Ok x) (Err p) here is missing = missing p refl
    after (Err p) others here is missing = absurd (cc)

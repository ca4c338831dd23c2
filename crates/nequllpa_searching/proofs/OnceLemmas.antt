-- Documents in ascending order, each once.
use Rattle.std.proofs.Common.{◌≡◌, ◌∙◌, ◌<◌, ◌≤◌, ◌+◌, ◌||◌, ℕ, zero, suc, Bool, true, false, List, [], ◌∷◌, ap, arith, filter, inl, inr, length, nat_eq, refl, sym}
use Rattle.std.specs.Prelude.{◌⊎◌, ⊤, slice_index}
use Rattle.std.specs.List.{AllByRecursion, dedup, dedup_from, range_with_len}
use Rattle.std.specs.List.Sorted.{IsPermutation, IsSorted, IsStrictlyIncreasing}
use Rattle.std.specs.Ordering.{nat_cmp}
use Rattle.std.proofs.Math.Dec.{eqb}
use Rattle.std.proofs.lemmas.List.Sorted.{list_any-IsPermutation}
use Rattle.std.proofs.lemmas.Map.Keys.{IsStrictlyIncreasing-dedup}
use Rattle.std.proofs.lemmas.Bool.{eq-eqb, eqb-true, eqb-false}
use Rattle.nequllpa_searching.specs.Deleting.{is_among}

-- ---- ascending documents from one on
abbrev Ascend : ℕ → List ℕ → Type 0
Ascend least [] = ⊤
Ascend least (doc ∷ docs) = (least ≤ doc) × Ascend (suc doc) docs

or_true : (a b : Bool) → (a || b) ≡ true → (a ≡ true) ⊎ (b ≡ true)
or_true true b is = inl refl
or_true false b is = inr is

or_second : (a b : Bool) → b ≡ true → (a || b) ≡ true
or_second true b is = refl
or_second false b is = is

one_least : (least : ℕ) (docs : List ℕ) (doc : ℕ) → Ascend least docs → is_among docs doc ≡ true → least ≤ doc
one_least least [] doc ascend one = absurd cc
one_least least (d ∷ ds) doc ascend one = by (or_true (nat_eq d doc) (is_among ds doc) one) (one_least (suc d) ds doc ascend.1)
  where
    by : (nat_eq d doc ≡ true) ⊎ (is_among ds doc ≡ true) → (is_among ds doc ≡ true → suc d ≤ doc) → least ≤ doc
    by (inl same) later = omega (arith, eqb-true d doc same, ascend.0)
    by (inr more) later = omega (arith, later more, ascend.0)

first_one : (d : ℕ) (ds : List ℕ) → is_among (d ∷ ds) d ≡ true
first_one d ds = rw (eq-eqb d d refl) refl

not_one : (d : ℕ) (ds : List ℕ) (b : Bool) → Ascend (suc d) ds → is_among ds d ≡ b → b ≡ false
not_one d ds true ascend is = absurd (omega (arith, one_least (suc d) ds d ascend is))
not_one d ds false ascend is = refl

same_first : (d e : ℕ) (ds es : List ℕ) → Ascend (suc d) ds → Ascend (suc e) es → is_among (d ∷ ds) e ≡ true → is_among (e ∷ es) d ≡ true → d ≡ e
same_first d e ds es up down one other = by (or_true (nat_eq d e) (is_among ds e) one) (or_true (nat_eq e d) (is_among es d) other)
  where
    by : (nat_eq d e ≡ true) ⊎ (is_among ds e ≡ true) → (nat_eq e d ≡ true) ⊎ (is_among es d ≡ true) → d ≡ e
    by (inl same) o = eqb-true d e same
    by (inr more) (inl same) = sym (eqb-true e d same)
    by (inr more) (inr later) = absurd (omega (arith, one_least (suc d) ds e up more, one_least (suc e) es d down later))

-- two such lists of the same documents are the same
same_docs : (least : ℕ) (ds es : List ℕ) → Ascend least ds → Ascend least es → ((doc : ℕ) → is_among ds doc ≡ is_among es doc) → ds ≡ es
same_docs least [] [] up down same = refl
same_docs least [] (e ∷ es) up down same = absurd (let none : false ≡ true = same e ∙ first_one e es in cc)
same_docs least (d ∷ ds) [] up down same = absurd (let none : true ≡ false = sym (first_one d ds) ∙ same d in cc)
same_docs least (d ∷ ds) (e ∷ es) up down same = both (same_docs (suc d) ds es up.1)
  where
    first : d ≡ e
    first = same_first d e ds es up.1 down.1 (same e ∙ first_one e es) (sym (same d) ∙ first_one d ds)

    rest : (doc : ℕ) (b : Bool) → nat_eq d doc ≡ b → is_among ds doc ≡ is_among es doc
    rest doc true is =
        let at : doc ≡ d = sym (eqb-true d doc is) in
        ap (is_among ds) at ∙ not_one d ds (is_among ds d) up.1 refl ∙ sym (not_one e es (is_among es e) down.1 refl) ∙ ap (is_among es) (sym (at ∙ first))
    rest doc false is =
        let here : (nat_eq d doc || is_among ds doc) ≡ (nat_eq e doc || is_among es doc) = same doc in
        let other : nat_eq e doc ≡ false = ap (λ (n : ℕ). nat_eq n doc) (sym first) ∙ is in
        rw (is, other) at here

    both : (Ascend (suc d) es → ((doc : ℕ) → is_among ds doc ≡ is_among es doc) → ds ≡ es) → d ∷ ds ≡ e ∷ es
    both tails = ap (λ (n : ℕ). n ∷ ds) first ∙ ap (λ (xs : List ℕ). e ∷ xs) (tails (rw (← first) at down.1) (λ doc. rest doc (nat_eq d doc) refl))

-- ---- the documents below a number that pass a test
range_ascends : (p : ℕ → Bool) (least n : ℕ) → Ascend least (filter p (range_with_len least n))
range_ascends p least zero = tt
range_ascends p least (suc n) = by (p least) refl (range_ascends p (least + 1) n)
  where
    lower : (docs : List ℕ) → Ascend (least + 1) docs → Ascend least docs
    lower [] up = tt
    lower (d ∷ ds) up = (omega (arith, up.0), up.1)

    higher : (docs : List ℕ) → Ascend (least + 1) docs → Ascend (suc least) docs
    higher [] up = tt
    higher (d ∷ ds) up = (omega (arith, up.0), up.1)

    by : (b : Bool) → p least ≡ b → Ascend (least + 1) (filter p (range_with_len (least + 1) n)) → Ascend least (filter p (range_with_len least (suc n)))
    by true is up = rw is (omega arith, higher (filter p (range_with_len (least + 1) n)) up)
    by false is up = rw is (lower (filter p (range_with_len (least + 1) n)) up)

-- a document that passes is there exactly if it is in the range
in_range : (p : ℕ → Bool) (least n doc : ℕ) → p doc ≡ true → least ≤ doc → doc < least + n → is_among (filter p (range_with_len least n)) doc ≡ true
in_range p least zero doc passes low high = absurd (omega (arith, low, high))
in_range p least (suc n) doc passes low high = by (nat_eq least doc) refl (in_range p (least + 1) n doc passes)
  where
    by : (b : Bool) → nat_eq least doc ≡ b → (least + 1 ≤ doc → doc < least + 1 + n → is_among (filter p (range_with_len (least + 1) n)) doc ≡ true) → is_among (filter p (range_with_len least (suc n))) doc ≡ true
    by true is later =
        let here : p least ≡ true = ap p (eqb-true least doc is) ∙ passes in
        rw (here, is) refl
    by false is later =
        let rest = later (omega (arith, low, eqb-false least doc is)) (omega (arith, high)) in
        kept (p least) rest
      where
        kept : (b : Bool) → is_among (filter p (range_with_len (least + 1) n)) doc ≡ true → is_among (filter p (range_with_len least (suc n))) doc ≡ true
        kept b rest = more (p least) refl
          where
            more : (c : Bool) → p least ≡ c → is_among (filter p (range_with_len least (suc n))) doc ≡ true
            more true one = rw one (or_second (nat_eq least doc) (is_among (filter p (range_with_len (least + 1) n)) doc) rest)
            more false one = rw one rest

passes_in : (p : ℕ → Bool) (docs : List ℕ) (doc : ℕ) → is_among (filter p docs) doc ≡ true → p doc ≡ true
passes_in p [] doc one = absurd cc
passes_in p (d ∷ ds) doc one = by (p d) refl (passes_in p ds doc)
  where
    by : (b : Bool) → p d ≡ b → (is_among (filter p ds) doc ≡ true → p doc ≡ true) → p doc ≡ true
    by false is later = let rest : is_among (filter p ds) doc ≡ true = rw is at one in later rest
    by true is later = let there : (nat_eq d doc || is_among (filter p ds) doc) ≡ true = rw is at one in either (or_true (nat_eq d doc) (is_among (filter p ds) doc) there)
      where
        either : (nat_eq d doc ≡ true) ⊎ (is_among (filter p ds) doc ≡ true) → p doc ≡ true
        either (inl same) = ap p (sym (eqb-true d doc same)) ∙ is
        either (inr rest) = later rest

below_of : (n : ℕ) (docs : List ℕ) (doc : ℕ) → AllByRecursion (λ (d : ℕ). d < n) docs → is_among docs doc ≡ true → doc < n
below_of n [] doc all one = absurd cc
below_of n (d ∷ ds) doc all one = by (or_true (nat_eq d doc) (is_among ds doc) one) (below_of n ds doc all.1)
  where
    by : (nat_eq d doc ≡ true) ⊎ (is_among ds doc ≡ true) → (is_among ds doc ≡ true → doc < n) → doc < n
    by (inl same) later = omega (arith, eqb-true d doc same, all.0)
    by (inr rest) later = later rest

same_test : (a b : Bool) → (a ≡ true → b ≡ true) → (b ≡ true → a ≡ true) → a ≡ b
same_test true b one other = sym (one refl)
same_test false true one other = other refl
same_test false false one other = refl

-- ---- documents that were sorted, of which equal ones are left out
without_equal : (d : ℕ) (ds : List ℕ) (doc : ℕ) → is_among (dedup_from eqb d ds) doc ≡ is_among (d ∷ ds) doc
without_equal d [] doc = refl
without_equal d (e ∷ es) doc = by (eqb e d) refl (without_equal d es doc) (without_equal e es doc)
  where
    twice : (a b : Bool) → (a || b) ≡ (a || (a || b))
    twice true b = refl
    twice false b = refl

    by : (b : Bool) → eqb e d ≡ b → is_among (dedup_from eqb d es) doc ≡ is_among (d ∷ es) doc → is_among (dedup_from eqb e es) doc ≡ is_among (e ∷ es) doc → is_among (dedup_from eqb d (e ∷ es)) doc ≡ is_among (d ∷ e ∷ es) doc
    by true is same other = rw is (same ∙ twice (nat_eq d doc) (is_among es doc) ∙ ap (λ (n : ℕ). nat_eq d doc || (nat_eq n doc || is_among es doc)) (sym (eqb-true e d is)))
    by false is same other = rw is (ap (λ (b : Bool). nat_eq d doc || b) other)

same_but_equal : (docs : List ℕ) (doc : ℕ) → is_among (dedup eqb docs) doc ≡ is_among docs doc
same_but_equal [] doc = refl
same_but_equal (d ∷ ds) doc = without_equal d ds doc

ascend_at : (least : ℕ) (docs : List ℕ) → (0 < length docs → least ≤ slice_index docs 0) → IsStrictlyIncreasing docs → Ascend least docs
ascend_at least [] first up = tt
ascend_at least (d ∷ ds) first up =
    (first (omega arith), ascend_at (suc d) ds (λ some. omega (arith, up 0 (omega (arith, some)))) (λ k within. next k within))
  where
    next : (k : ℕ) → k + 1 < length ds → slice_index ds k < slice_index ds (k + 1)
    next k within =
        let one_more : k + 1 ≡ suc k = omega arith in
        let two_more : k + 1 + 1 ≡ suc (k + 1) = omega arith in
        let one : slice_index (d ∷ ds) (k + 1) ≡ slice_index ds k = ap (slice_index (d ∷ ds)) one_more in
        let two : slice_index (d ∷ ds) (k + 1 + 1) ≡ slice_index ds (k + 1) = ap (slice_index (d ∷ ds)) two_more in
        omega (arith, up (k + 1) (omega (arith, within)), one, two)

pub each_once : (docs sorted once : List ℕ) (n : ℕ) → IsPermutation docs sorted → IsSorted nat_cmp sorted → once ≡ dedup eqb sorted → AllByRecursion (λ (d : ℕ). d < n) docs → once ≡ filter (is_among docs) (range_with_len 0 n)
each_once docs sorted once n moved ordered is below =
    same_docs 0 once (filter (is_among docs) (range_with_len 0 n))
    (rw is (ascend_at 0 (dedup eqb sorted) (λ some. omega arith) (IsStrictlyIncreasing-dedup sorted ordered)))
    (range_ascends (is_among docs) 0 n)
    (λ doc. ap (λ (ds : List ℕ). is_among ds doc) is ∙ same_but_equal sorted doc ∙ sym (list_any-IsPermutation (λ (d : ℕ). nat_eq d doc) docs sorted moved)
    ∙ same_test (is_among docs doc) (is_among (filter (is_among docs) (range_with_len 0 n)) doc)
    (λ one. in_range (is_among docs) 0 n doc one (omega arith) (omega (arith, below_of n docs doc below one)))
    (λ one. passes_in (is_among docs) (range_with_len 0 n) doc one))

-- Laws of values that are summed without testing each.
use Rattle.std.proofs.Common.{◌≡◌, ℕ, suc, ap, ◌+◌, ◌*◌, ◌%◌, ◌^◌, ◌<◌, ◌≤◌, Bool, true, false, ◌&&◌, List, [], ◌∷◌, ◌++◌, length, take, drop, map, get_or, set, nat_lt, refl, sym, ◌∙◌, arith, append_assoc, ⊎_elim}
use Rattle.std.proofs.Math.Bool.{and-false, and-true}
use Rattle.std.proofs.lemmas.Bool.{cases_lt, lt-ltb, le-ltb, ltb-true, and_parts}
use Rattle.std.proofs.lemmas.List.{drop_more, append-nil, take_more_set, take_all, drop_all}
use Rattle.std.proofs.lemmas.List.Sums.{sum_by-cons}
use Rattle.std.specs.Bool.{OnTrue}
use Rattle.std.specs.List.{sum}
use Rattle.ii_codes.specs.Blocks.{values_from, unsorted_values}
use Rattle.ii_codes.specs.Sums.{fit_u32}

-- the values modulo 2 ^ 32
abbrev pub wrapped_from : ℕ → ℕ → List ℕ → List ℕ
wrapped_from gap least es = map (λ v. v % 2 ^ 32) (values_from gap least es)

-- What a loop knows that has k values in its output, of which the next is at least so great.
pub record IsSumming (gap least next k : ℕ) (es out : List ℕ) : Type 0 where
  pub bound : next < (k + 2) * 2 ^ 32
  pub values : take k out ++ wrapped_from gap next (drop k es) ≡ wrapped_from gap least es
  pub fit : fit_u32 (values_from gap least es) ≡ (nat_lt next (2 ^ 32 + gap) && fit_u32 (values_from gap next (drop k es)))

fit_more : (gap next v : ℕ) (t : Bool) → next ≤ v → (nat_lt next (2 ^ 32 + gap) && (nat_lt v (2 ^ 32) && t)) ≡ (nat_lt (v + gap) (2 ^ 32 + gap) && t)
fit_more gap next v t up =
    ⊎_elim
    (λ below. rw (lt-ltb v 4294967296 below, lt-ltb (v + gap) (4294967296 + gap) (omega arith), lt-ltb next (4294967296 + gap) (omega arith)) refl)
    (λ above. rw (le-ltb v 4294967296 above, le-ltb (v + gap) (4294967296 + gap) (omega arith)) (and-false (nat_lt next (2 ^ 32 + gap))))
    (cases_lt v 4294967296)

pub summing-more : (gap least next k e : ℕ) (es out : List ℕ) → IsSumming gap least next k es out → k < length es → k < length out → e ≡ get_or es k 0 → e < 2 ^ 32 → gap ≤ 1
    → IsSumming gap least (next + (e + gap)) (k + 1) es (set out k ((next + e) % 2 ^ 32))
summing-more gap least next k e es out h more within entry small g =
    let bound = h.bound in
    let here = drop_more es k 0 more in
    let place : next + (e + gap) ≡ next + e + gap = omega arith in
    let values = rw (here, ← entry) at h.values in
    let fit = rw (here, ← entry) at h.fit in
    record {
      bound = omega arith;
      values = rw (take_more_set out k ((next + e) % 2 ^ 32) within, place) (append_assoc (take k out) ((next + e) % 2 ^ 32 ∷ []) (wrapped_from gap (next + e + gap) (drop (k + 1) es)) ∙ values);
      fit = rw place (fit ∙ fit_more gap next (next + e) (fit_u32 (values_from gap (next + e + gap) (drop (k + 1) es))) (omega arith));
    }

pub on_true : (b : Bool) {P : Type 0} → (b ≡ true → P) → OnTrue b P
on_true true p = p refl
on_true false p = tt

-- values that fit are unchanged modulo 2 ^ 32
pub fit_wrapped : (vs : List ℕ) → fit_u32 vs ≡ true → map (λ v. v % 2 ^ 32) vs ≡ vs
fit_wrapped [] h = refl
fit_wrapped (v ∷ vs) h =
    let both = and_parts (nat_lt v (2 ^ 32)) (fit_u32 vs) h in
    let small = ltb-true v 4294967296 both.0 in
    let same : v % 4294967296 ≡ v = omega arith in
    rw (same, fit_wrapped vs both.1) refl

pub summing-fits : (gap least next k : ℕ) (es out : List ℕ) → IsSumming gap least next k es out → length es ≤ k → nat_lt next (2 ^ 32 + gap) ≡ fit_u32 (values_from gap least es)
summing-fits gap least next k es out h done =
    let fit = rw (drop_all k es done) at h.fit in
    sym (fit ∙ and-true (nat_lt next (2 ^ 32 + gap)))

summing-all : (gap least next k : ℕ) (es out : List ℕ) → IsSumming gap least next k es out → length es ≤ k → length out ≤ k → fit_u32 (values_from gap least es) ≡ true → out ≡ values_from gap least es
summing-all gap least next k es out h done full fits =
    let values = rw (drop_all k es done, take_all k out full, append-nil out) at h.values in
    values ∙ fit_wrapped (values_from gap least es) fits

pub summing-values : (gap least next k : ℕ) (es out : List ℕ) → IsSumming gap least next k es out → length es ≤ k → length out ≤ k → OnTrue (nat_lt next (2 ^ 32 + gap)) (out ≡ values_from gap least es)
summing-values gap least next k es out h done full =
    on_true (nat_lt next (2 ^ 32 + gap)) (λ fits. summing-all gap least next k es out h done full (sym (summing-fits gap least next k es out h done) ∙ fits))

-- the values one more than entries, modulo 2 ^ 32
abbrev pub wrapped_above : List ℕ → List ℕ
wrapped_above es = map (λ v. v % 2 ^ 32) (unsorted_values true es)

-- What a loop knows that has added one to k entries.
pub record IsAddingOne (fits : Bool) (k : ℕ) (es out : List ℕ) : Type 0 where
  pub values : take k out ++ wrapped_above (drop k out) ≡ wrapped_above es
  pub fit : fit_u32 (unsorted_values true es) ≡ (fits && fit_u32 (unsorted_values true (drop k out)))

pub adding-fits : (fits : Bool) (k : ℕ) (es out : List ℕ) → IsAddingOne fits k es out → length out ≤ k → fits ≡ fit_u32 (unsorted_values true es)
adding-fits fits k es out h done = let fit = rw (drop_all k out done) at h.fit in sym (fit ∙ and-true fits)

pub adding-values : (fits : Bool) (k : ℕ) (es out : List ℕ) → IsAddingOne fits k es out → length out ≤ k → OnTrue fits (out ≡ unsorted_values true es)
adding-values fits k es out h done =
    on_true fits
    (λ all.
    let values = rw (drop_all k out done, take_all k out done, append-nil out) at h.values in
    values ∙ fit_wrapped (unsorted_values true es) (sym (adding-fits fits k es out h done) ∙ all))

-- the last of the values of e and more entries
abbrev pub last_from : ℕ → ℕ → ℕ → List ℕ → ℕ
last_from gap least e [] = least + e
last_from gap least e (f ∷ fs) = last_from gap (least + e + gap) f fs

last_from-ge : (gap least e : ℕ) (es : List ℕ) → least + e ≤ last_from gap least e es
last_from-ge gap least e [] = omega arith
last_from-ge gap least e (f ∷ fs) = let ih = last_from-ge gap (least + e + gap) f fs in omega arith

last_from-value : (gap least e : ℕ) (es : List ℕ) → get_or (values_from gap least (e ∷ es)) (length es) 0 ≡ last_from gap least e es
last_from-value gap least e [] = refl
last_from-value gap least e (f ∷ fs) = last_from-value gap (least + e + gap) f fs

last_from-sum : (gap least e : ℕ) (es : List ℕ) → last_from gap least e es ≡ least + sum (e ∷ es) + length es * gap
last_from-sum gap least e [] = rw (sum_by-cons (λ (x : ℕ). x) e []) (omega arith)
last_from-sum gap least e (f ∷ fs) =
    let ih = last_from-sum gap (least + e + gap) f fs in
    let place : suc (length fs) * gap ≡ length fs * gap + gap = omega arith in
    rw (ih, sum_by-cons (λ (x : ℕ). x) e (f ∷ fs), place) (omega arith)

last_from-fits : (gap least e : ℕ) (es : List ℕ) → fit_u32 (values_from gap least (e ∷ es)) ≡ nat_lt (last_from gap least e es) (2 ^ 32)
last_from-fits gap least e [] = and-true (nat_lt (least + e) (2 ^ 32))
last_from-fits gap least e (f ∷ fs) =
    let ih = last_from-fits gap (least + e + gap) f fs in
    let up = last_from-ge gap (least + e + gap) f fs in
    ⊎_elim
    (λ below. rw (lt-ltb (least + e) 4294967296 (omega arith)) ih)
    (λ above. rw (ih, le-ltb (last_from gap (least + e + gap) f fs) 4294967296 above) (and-false (nat_lt (least + e) (2 ^ 32))))
    (cases_lt (last_from gap (least + e + gap) f fs) 4294967296)

-- the last of 128 values, by the sum of their entries
pub last_fits : (gap least : ℕ) (es : List ℕ) → length es ≡ 128 → fit_u32 (values_from gap least es) ≡ nat_lt (least + sum es + 127 * gap) (2 ^ 32)
last_fits gap least [] many = absurd (omega arith)
last_fits gap least (e ∷ es) many =
    let others : length es ≡ 127 = omega arith in
    let last = rw others at (last_from-sum gap least e es) in
    last_from-fits gap least e es ∙ ap (λ (x : ℕ). nat_lt x (2 ^ 32)) last

pub last_value : (gap least : ℕ) (es : List ℕ) → length es ≡ 128 → get_or (values_from gap least es) 127 0 ≡ least + sum es + 127 * gap
last_value gap least [] many = absurd (omega arith)
last_value gap least (e ∷ es) many =
    let others : length es ≡ 127 = omega arith in
    let last = rw others at (last_from-sum gap least e es) in
    let value = rw others at (last_from-value gap least e es) in
    value ∙ last

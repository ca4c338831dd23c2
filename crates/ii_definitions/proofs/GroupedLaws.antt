-- The entries of tokens.
use Rattle.std.proofs.Common.{true≢false, suc-ne-zero, ◌==◌, ◌||◌, ◌<◌, ◌≡◌, ℕ, Bool, true, false, List, [], ◌∷◌, length, nat_eq, refl, sym, ap, ◌∙◌, arith, ◌≤◌}
use Rattle.std.specs.Prelude.{filter}
use Rattle.std.specs.List.{AllByRecursion}
use Rattle.std.proofs.lemmas.List.Sums.{length-filter}
use Rattle.ii_base.specs.Entries.{Entry}
use Rattle.ii_definitions.specs.Postings.{IsCounted, field_count, grouped, is_at, occurs, tokens_at, with_token}
use Rattle.ii_definitions.specs.Tokens.{IndexToken}
use Rattle.std.proofs.lemmas.Bool.{ne_eqb}

counted_with : (t : IndexToken) (es : List Entry) → AllByRecursion IsCounted es → AllByRecursion IsCounted (with_token t es)
counted_with t [] counted = (record { many = refl; some = omega (arith) }, tt)
counted_with t (e ∷ es) counted = by_case (nat_eq e.doc t.doc) refl
  where
    by_case : (b : Bool) → nat_eq e.doc t.doc ≡ b → AllByRecursion IsCounted (with_token t (e ∷ es))
    by_case true same = rw same (record { many = omega (arith, counted.0.many); some = omega (arith) }, counted.1)
    by_case false other = rw other (record { many = refl; some = omega (arith) }, counted)

-- each entry counts its tokens
pub grouped_counted : (ts : List IndexToken) → AllByRecursion IsCounted (grouped ts)
grouped_counted [] = tt
grouped_counted (t ∷ ts) = counted_with t (grouped ts) (grouped_counted ts)

-- a key that has no tokens didn't occur
pub none_occurs : (field : ℕ) (key : List ℕ) (ts : List IndexToken) → occurs field key ts ≡ false → tokens_at field key ts ≡ []
none_occurs field key [] none = refl
none_occurs field key (t ∷ ts) none = by_case (is_at field key t) refl (none_occurs field key ts)
  where
    by_case : (b : Bool) → is_at field key t ≡ b → (occurs field key ts ≡ false → tokens_at field key ts ≡ []) → tokens_at field key (t ∷ ts) ≡ []
    by_case true is rest = absurd (true≢false (sym (ap (λ (c : Bool). c || occurs field key ts) is) ∙ none))
    by_case false is rest = rw is (rest (sym (ap (λ (c : Bool). c || occurs field key ts) is) ∙ none))

some_grouped : (t : IndexToken) (es : List Entry) → 0 < length (with_token t es)
some_grouped t [] = omega (arith)
some_grouped t (e ∷ es) = by_case (nat_eq e.doc t.doc) refl
  where
    by_case : (b : Bool) → nat_eq e.doc t.doc ≡ b → 0 < length (with_token t (e ∷ es))
    by_case true same = rw same (omega (arith))
    by_case false other = rw other (omega (arith))

-- a key that occurred has an entry
pub some_occurs : (field : ℕ) (key : List ℕ) (ts : List IndexToken) → occurs field key ts ≡ true → 0 < length (grouped (tokens_at field key ts))
some_occurs field key [] some = absurd (cc)
some_occurs field key (t ∷ ts) some = by_case (is_at field key t) refl (some_occurs field key ts)
  where
    by_case : (b : Bool) → is_at field key t ≡ b → (occurs field key ts ≡ true → 0 < length (grouped (tokens_at field key ts))) → 0 < length (grouped (tokens_at field key (t ∷ ts)))
    by_case true is rest = rw is (some_grouped t (grouped (tokens_at field key ts)))
    by_case false is rest = rw is (rest (sym (ap (λ (c : Bool). c || occurs field key ts) is) ∙ some))

no_key : (field : ℕ) (key : List ℕ) (ts : List IndexToken) → length (filter (λ (t : IndexToken). t.field == field) ts) ≡ 0 → occurs field key ts ≡ false
no_key field key [] none = refl
no_key field key (t ∷ ts) none = by_case (nat_eq t.field field) refl (no_key field key ts)
  where
    by_case : (b : Bool) → nat_eq t.field field ≡ b → (length (filter (λ (u : IndexToken). u.field == field) ts) ≡ 0 → occurs field key ts ≡ false) → occurs field key (t ∷ ts) ≡ false
    by_case true is rest = absurd (suc-ne-zero (length (filter (λ (u : IndexToken). u.field == field) ts)) (sym (rw is refl) ∙ none))
    by_case false is rest = rw is (rest (sym (rw is refl) ∙ none))

-- a field without tokens has no keys
pub no_field : (field : ℕ) (key : List ℕ) (ts : List IndexToken) → field_count field ts ≡ 0 → occurs field key ts ≡ false
no_field field key ts none = no_key field key ts (length-filter (λ (t : IndexToken). t.field == field) ts ∙ none)

-- documents of tokens stay below where they are filtered and grouped
pub filter_below : (n : ℕ) (p : IndexToken → Bool) (ts : List IndexToken) → AllByRecursion (λ (t : IndexToken). t.doc < n) ts → AllByRecursion (λ (t : IndexToken). t.doc < n) (filter p ts)
filter_below n p [] below = tt
filter_below n p (t ∷ ts) below = by_case (p t) refl (filter_below n p ts below.1)
  where
    by_case : (b : Bool) → p t ≡ b → AllByRecursion (λ (u : IndexToken). u.doc < n) (filter p ts) → AllByRecursion (λ (u : IndexToken). u.doc < n) (filter p (t ∷ ts))
    by_case true is rest = rw is (below.0, rest)
    by_case false is rest = rw is rest

with_below : (n : ℕ) (t : IndexToken) (es : List Entry) → t.doc < n → AllByRecursion (λ (e : Entry). e.doc < n) es → AllByRecursion (λ (e : Entry). e.doc < n) (with_token t es)
with_below n t [] low below = (low, tt)
with_below n t (e ∷ es) low below = by_case (nat_eq e.doc t.doc) refl
  where
    by_case : (b : Bool) → nat_eq e.doc t.doc ≡ b → AllByRecursion (λ (x : Entry). x.doc < n) (with_token t (e ∷ es))
    by_case true same = rw same (below.0, below.1)
    by_case false other = rw other (low, below)

pub grouped_below : (n : ℕ) (ts : List IndexToken) → AllByRecursion (λ (t : IndexToken). t.doc < n) ts → AllByRecursion (λ (e : Entry). e.doc < n) (grouped ts)
grouped_below n [] below = tt
grouped_below n (t ∷ ts) below = with_below n t (grouped ts) below.0 (grouped_below n ts below.1)

none_kept : (field n : ℕ) (ts : List IndexToken) → AllByRecursion (λ (t : IndexToken). t.field < n) ts → n ≤ field → length (filter (λ (t : IndexToken). t.field == field) ts) ≡ 0
none_kept field n [] known high = refl
none_kept field n (t ∷ ts) known high =
    let other : nat_eq t.field field ≡ false = ne_eqb t.field field (λ e. absurd (omega (arith, e, known.0, high))) in
    rw other (none_kept field n ts known.1 high)

-- a field at or above the number of fields has no tokens
pub count_none : (field n : ℕ) (ts : List IndexToken) → AllByRecursion (λ (t : IndexToken). t.field < n) ts → n ≤ field → field_count field ts ≡ 0
count_none field n ts known high = sym (length-filter (λ (t : IndexToken). t.field == field) ts) ∙ none_kept field n ts known high

-- Number of tokens in the postings of a field's keys.
use Rattle.std.proofs.Common.{◌≡◌, ◌∙◌, ◌+◌, ◌≤◌, ◌==◌, ℕ, Bool, true, false, ◌&&◌, cond, List, [], ◌∷◌, map, nat_eq, Some, refl, sym, ap, subst, arith, Less}
use Rattle.std.specs.Prelude.{if◌then◌else◌, bytes_eq}
use Rattle.std.specs.List.{AllByRecursion, flat_map, sum_by}
use Rattle.std.specs.List.Sorted.{IsStrictlySortedBy}
use Rattle.std.specs.Cmp.Lexicographic.{bytes_decides, slice_cmp}
use Rattle.std.specs.Ordering.{is_eq, nat_cmp}
use Rattle.std.proofs.lemmas.Bool.{eqb-true}
use Rattle.std.proofs.lemmas.List.Concat.{flat_map-cons}
use Rattle.std.proofs.lemmas.List.Sums.{sum_by-append, sum_by-cons}
use Rattle.std.proofs.lemmas.Map.Text.{is_eq-slice_cmp}
use Rattle.ii_base.specs.Entries.{Entry}
use Rattle.ii_base.specs.Options.{has_freq}
use Rattle.ii_base.specs.declared.schema.index_record_option.IndexRecordOption.{IndexRecordOption}
use Rattle.ii_termdict.specs.Dictionary.{TermEntry, entry_keys, info_under}
use Rattle.ii_termdict.specs.ReadBack.{AreAscending}
use Rattle.ii_termstore.specs.declared.term_info.TermInfo.{TermInfo}
use Rattle.ii_definitions.specs.Cut.{cut_entry}
use Rattle.ii_definitions.specs.Postings.{IsCounted, doc_count, entry_of, field_count, grouped, is_at, tokens_at, with_token}
use Rattle.ii_definitions.specs.Tokens.{IndexToken}

-- what an entry adds where its document passes, and what a token does
abbrev pub weight : (ℕ → Bool) → Entry → ℕ
weight test e = if test e.doc then e.term_freq else 0

abbrev pub token_weight : (ℕ → Bool) → IndexToken → ℕ
token_weight test t = if test t.doc then 1 else 0

-- sums of functions that agree, that are zero, and of the sum of two
pub sum_same : {X : Type 0} (f g : X → ℕ) → ((x : X) → f x ≡ g x) → (xs : List X) → sum_by f xs ≡ sum_by g xs
sum_same f g same [] = refl
sum_same f g same (x ∷ xs) = rw (sum_by-cons f x xs, sum_by-cons g x xs, same x, sum_same f g same xs) refl

sum_zero : {X : Type 0} (xs : List X) → sum_by (λ (x : X). 0) xs ≡ 0
sum_zero {X} [] = refl
sum_zero {X} (x ∷ xs) =
    let a = sum_by-cons (λ (y : X). 0) x xs in
    let ih = sum_zero xs in
    omega (arith, a, ih)

sum_plus : {X : Type 0} (f g : X → ℕ) (xs : List X) → sum_by (λ (x : X). f x + g x) xs ≡ sum_by f xs + sum_by g xs
sum_plus {X} f g [] = refl
sum_plus {X} f g (x ∷ xs) =
    let a = sum_by-cons (λ (y : X). f y + g y) x xs in
    let b = sum_by-cons f x xs in
    let c = sum_by-cons g x xs in
    let ih = sum_plus f g xs in
    omega (arith, a, b, c, ih)

-- a lesser function has a lesser sum, and one that agrees on a list the same
pub sum_less : {X : Type 0} (f g : X → ℕ) (xs : List X) → AllByRecursion (λ (x : X). f x ≤ g x) xs → sum_by f xs ≤ sum_by g xs
sum_less f g [] all = omega arith
sum_less f g (x ∷ xs) all =
    let b = sum_by-cons f x xs in
    let c = sum_by-cons g x xs in
    let ih = sum_less f g xs all.1 in
    let here = all.0 in
    omega (arith, b, c, ih, here)

pub sum_equal : {X : Type 0} (f g : X → ℕ) (xs : List X) → AllByRecursion (λ (x : X). f x ≡ g x) xs → sum_by f xs ≡ sum_by g xs
sum_equal f g [] all = refl
sum_equal f g (x ∷ xs) all = rw (sum_by-cons f x xs, sum_by-cons g x xs, all.0, sum_equal f g xs all.1) refl

-- the sum over lists one after the other
pub sum_parts : {X Y : Type 0} (f : Y → ℕ) (g : X → List Y) (xs : List X) → sum_by f (flat_map g xs) ≡ sum_by (λ (x : X). sum_by f (g x)) xs
sum_parts {X} {Y} f g [] = refl
sum_parts {X} {Y} f g (x ∷ xs) =
    rw (flat_map-cons g x xs, sum_by-append f (g x) (flat_map g xs), sum_by-cons (λ (y : X). sum_by f (g y)) x xs, sum_parts f g xs) refl

-- a token more before entries adds its weight
with_weight : (test : ℕ → Bool) (t : IndexToken) (es : List Entry) → sum_by (weight test) (with_token t es) ≡ token_weight test t + sum_by (weight test) es
with_weight test t [] = sum_by-cons (weight test) (entry_of t) []
with_weight test t (e ∷ es) = by_case (nat_eq e.doc t.doc) refl
  where
    more : Entry
    more = record { doc = e.doc; term_freq = e.term_freq + 1; positions = t.position ∷ e.positions }

    by_test : (b : Bool) → test e.doc ≡ b → test t.doc ≡ b → weight test more ≡ token_weight test t + weight test e
    by_test true first second = rw (first, second) (omega arith)
    by_test false first second = rw (first, second) refl

    by_case : (b : Bool) → nat_eq e.doc t.doc ≡ b → sum_by (weight test) (with_token t (e ∷ es)) ≡ token_weight test t + sum_by (weight test) (e ∷ es)
    by_case true same =
        let docs : e.doc ≡ t.doc = eqb-true e.doc t.doc same in
        let here = by_test (test e.doc) refl (ap test (sym docs)) in
        let a = sum_by-cons (weight test) more es in
        let b = sum_by-cons (weight test) e es in
        let c : sum_by (weight test) (more ∷ es) ≡ token_weight test t + sum_by (weight test) (e ∷ es) = omega (arith, here, a, b) in
        rw same c
    by_case false other = rw other (sum_by-cons (weight test) (entry_of t) (e ∷ es))

-- entries weigh as much as their tokens
pub grouped_weight : (test : ℕ → Bool) (ts : List IndexToken) → sum_by (weight test) (grouped ts) ≡ sum_by (token_weight test) ts
grouped_weight test [] = refl
grouped_weight test (t ∷ ts) =
    with_weight test t (grouped ts) ∙ ap (λ (n : ℕ). token_weight test t + n) (grouped_weight test ts) ∙ sym (sum_by-cons (token_weight test) t ts)

-- what is kept of entries with their counts weighs as much, and without them no more
pub cut_same : (option : IndexRecordOption) (test : ℕ → Bool) (es : List Entry) → has_freq option ≡ true → sum_by (weight test) (map (cut_entry option) es) ≡ sum_by (weight test) es
cut_same option test [] keeps = refl
cut_same option test (e ∷ es) keeps =
    let here : weight test (cut_entry option e) ≡ weight test e = rw keeps refl in
    rw (sum_by-cons (weight test) (cut_entry option e) (map (cut_entry option) es), sum_by-cons (weight test) e es, here, cut_same option test es keeps) refl

cut_one : (option : IndexRecordOption) (test : ℕ → Bool) (e : Entry) (b c : Bool) → test e.doc ≡ b → has_freq option ≡ c → IsCounted e → weight test (cut_entry option e) ≤ weight test e
cut_one option test e false c passes keeps counted = rw passes (omega arith)
cut_one option test e true true passes keeps counted = rw (passes, keeps) (omega arith)
cut_one option test e true false passes keeps counted = rw (passes, keeps) (omega (arith, counted.some))

pub cut_less : (option : IndexRecordOption) (test : ℕ → Bool) (es : List Entry) → AllByRecursion IsCounted es → sum_by (weight test) (map (cut_entry option) es) ≤ sum_by (weight test) es
cut_less option test [] counted = omega arith
cut_less option test (e ∷ es) counted =
    let a = sum_by-cons (weight test) (cut_entry option e) (map (cut_entry option) es) in
    let b = sum_by-cons (weight test) e es in
    let here = cut_one option test e (test e.doc) (has_freq option) refl refl counted.0 in
    let ih = cut_less option test es counted.1 in
    omega (arith, a, b, here, ih)

-- what a token adds to the tokens of a key, and to those of a field
abbrev pub weight_at : (ℕ → Bool) → ℕ → IndexToken → List ℕ → ℕ
weight_at test field t key = if is_at field key t then token_weight test t else 0

abbrev pub weight_in : (ℕ → Bool) → ℕ → IndexToken → ℕ
weight_in test field t = if t.field == field then token_weight test t else 0

one_more : (test : ℕ → Bool) (field : ℕ) (t : IndexToken) (ts : List IndexToken) (key : List ℕ)
    → sum_by (token_weight test) (tokens_at field key (t ∷ ts)) ≡ weight_at test field t key + sum_by (token_weight test) (tokens_at field key ts)
one_more test field t ts key = by_case (is_at field key t) refl
  where
    by_case : (b : Bool) → is_at field key t ≡ b → sum_by (token_weight test) (tokens_at field key (t ∷ ts)) ≡ weight_at test field t key + sum_by (token_weight test) (tokens_at field key ts)
    by_case true is = rw is (sum_by-cons (token_weight test) t (tokens_at field key ts))
    by_case false is = rw is (omega arith)

-- no key above is this one
none_above : (k : List ℕ) (c : ℕ) (es : List TermEntry) → AllByRecursion (λ (y : List ℕ). slice_cmp nat_cmp k y ≡ Less) (entry_keys es) → sum_by (λ (e : TermEntry). if bytes_eq k e.0 then c else 0) es ≡ 0
none_above k c [] below = refl
none_above k c (e ∷ es) below =
    let apart : bytes_eq k e.0 ≡ false = sym (is_eq-slice_cmp k e.0) ∙ ap is_eq below.0 in
    let here : (if bytes_eq k e.0 then c else 0) ≡ 0 = rw apart refl in
    sum_by-cons (λ (x : TermEntry). if bytes_eq k x.0 then c else 0) e es ∙ rw (here, none_above k c es below.1) refl

-- ascending keys have each key once
pub once : (es : List TermEntry) (key : List ℕ) (c : ℕ) (info : TermInfo) → AreAscending (entry_keys es) → info_under key es ≡ Some info → sum_by (λ (e : TermEntry). if bytes_eq key e.0 then c else 0) es ≡ c
unfolding IsStrictlySortedBy
once [] key c info ascending found = absurd (cc)
once (e ∷ es) key c info ascending found = by_case (bytes_eq key e.0) refl (λ later. once es key c info ascending.1 later)
  where
    by_case : (b : Bool) → bytes_eq key e.0 ≡ b → (info_under key es ≡ Some info → sum_by (λ (x : TermEntry). if bytes_eq key x.0 then c else 0) es ≡ c) → sum_by (λ (x : TermEntry). if bytes_eq key x.0 then c else 0) (e ∷ es) ≡ c
    by_case true is others =
        let here : key ≡ e.0 = (bytes_decides key e.0).0 is in
        let rest : sum_by (λ (x : TermEntry). if bytes_eq key x.0 then c else 0) es ≡ 0 = subst (λ (k : List ℕ). sum_by (λ (x : TermEntry). if bytes_eq k x.0 then c else 0) es ≡ 0) (sym here) (none_above e.0 c es ascending.0) in
        let first : (if bytes_eq key e.0 then c else 0) ≡ c = rw is refl in
        let whole = sum_by-cons (λ (x : TermEntry). if bytes_eq key x.0 then c else 0) e es in
        omega (arith, whole, first, rest)
    by_case false is others =
        let later : info_under key es ≡ Some info = (let f : cond (bytes_eq key e.0) (Some e.1) (info_under key es) ≡ Some info = found in rw is at f) in
        let first : (if bytes_eq key e.0 then c else 0) ≡ 0 = rw is refl in
        let whole = sum_by-cons (λ (x : TermEntry). if bytes_eq key x.0 then c else 0) e es in
        let rest = others later in
        omega (arith, whole, first, rest)

-- Each token of a field is under a key of its terms.
abbrev pub HaveKeys : ℕ → List TermEntry → List IndexToken → Type 0
HaveKeys field es ts = AllByRecursion (λ (t : IndexToken). (t.field == field) ≡ true → (info : TermInfo) × (info_under t.key es ≡ Some info)) ts

at_keys : (test : ℕ → Bool) (field : ℕ) (t : IndexToken) (es : List TermEntry) → AreAscending (entry_keys es) → ((t.field == field) ≡ true → (info : TermInfo) × (info_under t.key es ≡ Some info))
    → sum_by (λ (e : TermEntry). weight_at test field t e.0) es ≡ weight_in test field t
at_keys test field t es ascending has = by_case (t.field == field) refl
  where
    by_case : (b : Bool) → (t.field == field) ≡ b → sum_by (λ (e : TermEntry). weight_at test field t e.0) es ≡ weight_in test field t
    by_case true is =
        let found = has is in
        let all : sum_by (λ (e : TermEntry). if bytes_eq t.key e.0 then token_weight test t else 0) es ≡ token_weight test t = once es t.key (token_weight test t) found.0 ascending found.1 in
        rw is all
    by_case false is = rw is (sum_zero es)

-- the tokens of all keys weigh as much as those of the field
pub keys_weight : (test : ℕ → Bool) (field : ℕ) (es : List TermEntry) → AreAscending (entry_keys es) → (ts : List IndexToken) → HaveKeys field es ts
    → sum_by (λ (e : TermEntry). sum_by (token_weight test) (tokens_at field e.0 ts)) es ≡ sum_by (weight_in test field) ts
keys_weight test field es ascending [] have = sum_zero es
keys_weight test field es ascending (t ∷ ts) have =
    sum_same (λ (e : TermEntry). sum_by (token_weight test) (tokens_at field e.0 (t ∷ ts))) (λ (e : TermEntry). weight_at test field t e.0 + sum_by (token_weight test) (tokens_at field e.0 ts)) (λ e. one_more test field t ts e.0) es
    ∙ sum_plus (λ (e : TermEntry). weight_at test field t e.0) (λ (e : TermEntry). sum_by (token_weight test) (tokens_at field e.0 ts)) es
    ∙ ap (λ (n : ℕ). n + sum_by (λ (e : TermEntry). sum_by (token_weight test) (tokens_at field e.0 ts)) es) (at_keys test field t es ascending have.0)
    ∙ ap (λ (n : ℕ). weight_in test field t + n) (keys_weight test field es ascending ts have.1)
    ∙ sym (sum_by-cons (weight_in test field) t ts)

pub doc_weight : (doc field : ℕ) (ts : List IndexToken) → sum_by (weight_in (λ d. d == doc) field) ts ≡ doc_count doc field ts
doc_weight doc field ts = sum_same (weight_in (λ d. d == doc) field) (λ (t : IndexToken). if (t.doc == doc) && (t.field == field) then 1 else 0) (λ t. both (t.doc == doc) (t.field == field)) ts
  where
    both : (a b : Bool) → ◌≡◌ {A = ℕ} (if b then (if a then 1 else 0) else 0) (if a && b then 1 else 0)
    both true true = refl
    both true false = refl
    both false true = refl
    both false false = refl

-- Which tokens have a key among the keys of a field that are in a range, and which of these keys pass a test.
use Rattle.std.proofs.Common.{◌≡◌, ◌∙◌, ℕ, Bool, true, false, ◌&&◌, ◌||◌, ◌==◌, true≢false, List, [], ◌∷◌, None, filter, refl, sym, ap}
use Rattle.std.specs.Prelude.{MatchOption, bytes_eq}
use Rattle.std.specs.Cmp.Lexicographic.{bytes_decides}
use Rattle.std.specs.List.{AllByRecursion, list_any}
use Rattle.std.proofs.Math.Bool.{and-false, and-true}
use Rattle.std.proofs.lemmas.Bool.{or_right}
use Rattle.ii_definitions.specs.Postings.{is_at, occurs}
use Rattle.ii_definitions.specs.Tokens.{IndexToken}
use Rattle.ii_termdict.specs.Dictionary.{TermEntry, entry_keys, info_under}
use Rattle.ii_termstore.specs.declared.term_info.TermInfo.{TermInfo}
use Rattle.ii_query_parser.specs.declared.term_range.TermRange.{TermRange}
use Rattle.ii_query_parser.specs.Ranges.{in_range}
use Rattle.ii_query_parser.specs.Queries.{is_token_in}

-- whether one of some keys is a key
abbrev pub has_key : List (List ℕ) → List ℕ → Bool
has_key keys key = list_any (bytes_eq key) keys

pub none_of_all : {A : Type 0} (xs : List A) → list_any (λ (x : A). false) xs ≡ false
none_of_all [] = refl
none_of_all (x ∷ xs) = none_of_all xs

-- tests that agree on each element
pub any_alike : {A : Type 0} (p q : A → Bool) (xs : List A) → ((x : A) → p x ≡ q x) → list_any p xs ≡ list_any q xs
any_alike p q [] same = refl
any_alike p q (x ∷ xs) same = rw (same x, any_alike p q xs same) refl

-- a test that asks something else too, which doesn't depend on the element
pub any_kept : {A : Type 0} (b : Bool) (p : A → Bool) (xs : List A) → list_any (λ (x : A). b && p x) xs ≡ (b && list_any p xs)
any_kept true p xs = refl
any_kept false p xs = none_of_all xs

-- tests of which one gives the other
pub any_more : {A : Type 0} (p q : A → Bool) → ((x : A) → p x ≡ true → q x ≡ true) → (xs : List A) → list_any p xs ≡ true → list_any q xs ≡ true
any_more p q more [] is = is
any_more p q more (x ∷ xs) is = by (p x) refl (any_more p q more xs)
  where
    by : (b : Bool) → p x ≡ b → (list_any p xs ≡ true → list_any q xs ≡ true) → list_any q (x ∷ xs) ≡ true
    by true here later = rw (more x here) refl
    by false here later = or_right (q x) (list_any q xs) (later (rw here at is))

-- what an element that passes gives, which is one of the list: some element passes each test that it passes
pub any_gives : {A : Type 0} (p : A → Bool) (xs : List A) (P : Type 0) → ((x : A) → p x ≡ true → ((q : A → Bool) → q x ≡ true → list_any q xs ≡ true) → P) → list_any p xs ≡ true → P
any_gives p [] P gives is = absurd (true≢false (sym is))
any_gives p (x ∷ xs) P gives is = by (p x) refl (any_gives p xs P (λ y passes among. gives y passes (λ q also. or_right (q x) (list_any q xs) (among q also))))
  where
    by : (b : Bool) → p x ≡ b → (list_any p xs ≡ true → P) → P
    by true here later = gives x here (λ q also. rw also refl)
    by false here later = later (rw here at is)

-- where no element passes, none passes another test too
pub any_none : {A : Type 0} (p q : A → Bool) (xs : List A) → list_any p xs ≡ false → list_any (λ (x : A). p x && q x) xs ≡ false
any_none p q [] none = refl
any_none {A = A} p q (x ∷ xs) none = by (p x) refl (any_none p q xs)
  where
    by : (b : Bool) → p x ≡ b → (list_any p xs ≡ false → list_any (λ (y : A). p y && q y) xs ≡ false) → list_any (λ (y : A). p y && q y) (x ∷ xs) ≡ false
    by true here later = absurd (true≢false (rw here at none))
    by false here later = rw here (later (rw here at none))

or_middle : (a b c d : Bool) → ((a || b) || (c || d)) ≡ ((a || c) || (b || d))
or_middle true b c d = refl
or_middle false true true d = refl
or_middle false true false d = refl
or_middle false false c d = refl

any_of_either : {A : Type 0} (p q : A → Bool) (xs : List A) → list_any (λ (x : A). p x || q x) xs ≡ (list_any p xs || list_any q xs)
any_of_either p q [] = refl
any_of_either p q (x ∷ xs) = ap (λ (b : Bool). (p x || q x) || b) (any_of_either p q xs) ∙ or_middle (p x) (q x) (list_any p xs) (list_any q xs)

-- one of two lists is asked first, or the other one
pub turned : {A B : Type 0} (p : A → B → Bool) (xs : List A) (ys : List B) → list_any (λ (x : A). list_any (p x) ys) xs ≡ list_any (λ (y : B). list_any (λ (x : A). p x y) xs) ys
turned p [] ys = sym (none_of_all ys)
turned p (x ∷ xs) ys = ap (λ (b : Bool). list_any (p x) ys || b) (turned p xs ys) ∙ sym (any_of_either (p x) (λ (y : _). list_any (λ (z : _). p z y) xs) ys)

-- the keys that pass a test have a key if it passes and all keys have it
kept_has : (a b : Bool) (key : List ℕ) (test : List ℕ → Bool) (keys : List (List ℕ))
    → list_any (λ (k : List ℕ). a && (b && bytes_eq key k)) (filter test keys) ≡ ((a && b) && (test key && has_key keys key))
kept_has a b key test [] = sym (ap (λ (c : Bool). (a && b) && c) (and-false (test key)) ∙ and-false (a && b))
kept_has a b key test (k ∷ ks) = by (bytes_eq key k) refl (test k) refl (kept_has a b key test ks)
  where
    passes : (a b c d : Bool) → c ≡ true → d ≡ ((a && b) && (true && has_key ks key)) → ((a && (b && true)) || d) ≡ ((a && b) && (c && true))
    passes true true c d is later = rw is refl
    passes true false c d is later = later
    passes false b c d is later = later

    by : (e : Bool) → bytes_eq key k ≡ e → (t : Bool) → test k ≡ t → list_any (λ (l : List ℕ). a && (b && bytes_eq key l)) (filter test ks) ≡ ((a && b) && (test key && has_key ks key))
        → list_any (λ (l : List ℕ). a && (b && bytes_eq key l)) (filter test (k ∷ ks)) ≡ ((a && b) && (test key && has_key (k ∷ ks) key))
    by true same true is later =
        let key_is : key ≡ k = (bytes_decides key k).0 same in
        let passed : test key ≡ true = ap test key_is ∙ is in
        rw (is, same) (passes a b (test key) _ passed (later ∙ ap (λ (c : Bool). (a && b) && (c && has_key ks key)) passed))
    by true same false is later =
        let key_is : key ≡ k = (bytes_decides key k).0 same in
        let failed : test key ≡ false = ap test key_is ∙ is in
        rw (is, same) (later ∙ ap (λ (c : Bool). (a && b) && (c && has_key ks key)) failed ∙ sym (ap (λ (c : Bool). (a && b) && (c && true)) failed))
    by false other true is later = rw (is, other) (ap (λ (c : Bool). c || list_any (λ (l : List ℕ). a && (b && bytes_eq key l)) (filter test ks)) (fails a b) ∙ later)
      where
        fails : (a b : Bool) → (a && (b && false)) ≡ false
        fails true true = refl
        fails true false = refl
        fails false b = refl
    by false other false is later = rw (is, other) later

-- a key that no entry has isn't found
not_found : (key : List ℕ) (entries : List TermEntry) → has_key (entry_keys entries) key ≡ false → info_under key entries ≡ None
not_found key [] none = refl
not_found key (e ∷ es) none = by (bytes_eq key e.0) refl none (not_found key es)
  where
    by : (b : Bool) → bytes_eq key e.0 ≡ b → (b || has_key (entry_keys es) key) ≡ false → (has_key (entry_keys es) key ≡ false → info_under key es ≡ None) → info_under key (e ∷ es) ≡ None
    by true is wrong others = absurd (cc)
    by false is later others = rw is (others later)

-- a key that occurred is among those of the entries
pub key_there : (holds : TermInfo → Type 0) (field : ℕ) (key : List ℕ) (entries : List TermEntry) (ts : List IndexToken) → MatchOption (info_under key entries) (occurs field key ts ≡ false) holds → occurs field key ts ≡ true → has_key (entry_keys entries) key ≡ true
key_there holds field key entries ts kept there = by (has_key (entry_keys entries) key) refl
  where
    wrong : MatchOption None (occurs field key ts ≡ false) holds → true ≡ false
    wrong none = sym there ∙ none

    by : (b : Bool) → has_key (entry_keys entries) key ≡ b → has_key (entry_keys entries) key ≡ true
    by true is = is
    by false is =
        let none : MatchOption None (occurs field key ts ≡ false) holds = rw (not_found key entries is) at kept in
        let bad = wrong none in
        absurd (cc)

-- each token's key occurred
occurred : (field : ℕ) (ts us : List IndexToken) → ((p : IndexToken → Bool) → list_any p us ≡ true → list_any p ts ≡ true) → AllByRecursion (λ (t : IndexToken). (t.field == field) ≡ true → occurs field t.key ts ≡ true) us
occurred field ts [] of_all = tt
occurred field ts (u ∷ us) of_all = (λ same. of_all (is_at field u.key) (here same), occurred field ts us (λ p later. of_all p (or_later (p u) (list_any p us) later)))
  where
    or_later : (a b : Bool) → b ≡ true → (a || b) ≡ true
    or_later true b later = refl
    or_later false b later = later

    here : (u.field == field) ≡ true → list_any (is_at field u.key) (u ∷ us) ≡ true
    here same = rw (same, (bytes_decides u.key u.key).1 refl) refl

-- what a token of the range says, said of the keys in the range
token_in : (range : TermRange) (keys : List (List ℕ)) (doc : ℕ) (t : IndexToken) → ((t.field == range.prefix.field) ≡ true → has_key keys t.key ≡ true)
    → list_any (λ (k : List ℕ). (t.doc == doc) && is_at range.prefix.field k t) (filter (in_range range) keys) ≡ is_token_in range doc t
token_in range keys doc t there = kept_has (t.doc == doc) (t.field == range.prefix.field) t.key (in_range range) keys ∙ by (t.doc == doc) (t.field == range.prefix.field) there
  where
    by : (a b : Bool) → (b ≡ true → has_key keys t.key ≡ true) → ((a && b) && (in_range range t.key && has_key keys t.key)) ≡ ((a && b) && in_range range t.key)
    by true true there = rw (there refl) (and-true (in_range range t.key))
    by true false there = refl
    by false b there = refl

tokens_in : (range : TermRange) (keys : List (List ℕ)) (doc : ℕ) (us : List IndexToken) → AllByRecursion (λ (t : IndexToken). (t.field == range.prefix.field) ≡ true → has_key keys t.key ≡ true) us
    → list_any (λ (t : IndexToken). list_any (λ (k : List ℕ). (t.doc == doc) && is_at range.prefix.field k t) (filter (in_range range) keys)) us ≡ list_any (is_token_in range doc) us
tokens_in range keys doc [] there = refl
tokens_in range keys doc (u ∷ us) there = rw (token_in range keys doc u there.0, tokens_in range keys doc us there.1) refl

both_hold : (field : ℕ) (ts us : List IndexToken) (keys : List (List ℕ)) → ((key : List ℕ) → occurs field key ts ≡ true → has_key keys key ≡ true) → AllByRecursion (λ (t : IndexToken). (t.field == field) ≡ true → occurs field t.key ts ≡ true) us
    → AllByRecursion (λ (t : IndexToken). (t.field == field) ≡ true → has_key keys t.key ≡ true) us
both_hold field ts [] keys kept all = tt
both_hold field ts (u ∷ us) keys kept all = (λ same. kept u.key (all.0 same), both_hold field ts us keys kept all.1)

-- the documents of the keys in a range are those of the tokens in it, where each key that occurred is there
pub range_has : (range : TermRange) (keys : List (List ℕ)) (ts : List IndexToken) (doc : ℕ) → ((key : List ℕ) → occurs range.prefix.field key ts ≡ true → has_key keys key ≡ true)
    → list_any (λ (k : List ℕ). list_any (λ (t : IndexToken). (t.doc == doc) && is_at range.prefix.field k t) ts) (filter (in_range range) keys) ≡ list_any (is_token_in range doc) ts
range_has range keys ts doc kept =
    turned (λ (k : List ℕ) (t : IndexToken). (t.doc == doc) && is_at range.prefix.field k t) (filter (in_range range) keys) ts
    ∙ tokens_in range keys doc ts (both_hold range.prefix.field ts ts keys kept (occurred range.prefix.field ts ts (λ p is. is)))

-- ---- another test of the keys in a range, which only keys that occurred pass
module _ (test : List ℕ → Bool) (range : TermRange) (keys : List (List ℕ)) (ts : List IndexToken) where
  -- a key that passes is that of a token
  passes_with : ((key : List ℕ) → occurs range.prefix.field key ts ≡ false → test key ≡ false) → (key : List ℕ) → test key ≡ list_any (λ (t : IndexToken). test key && is_at range.prefix.field key t) ts
  passes_with absent key = by (occurs range.prefix.field key ts) refl ∙ sym (any_kept (test key) (is_at range.prefix.field key) ts)
    where
      by : (b : Bool) → occurs range.prefix.field key ts ≡ b → test key ≡ (test key && occurs range.prefix.field key ts)
      by true is = rw is (sym (and-true (test key)))
      by false is = rw (is, absent key is) refl

  -- a key that is a token's passes if that does
  same_test : (field : Bool) (key k : List ℕ) → (test k && (field && bytes_eq key k)) ≡ (test key && (field && bytes_eq key k))
  same_test field key k = by (bytes_eq key k) refl
    where
      none : (a b : Bool) → (a && (b && false)) ≡ false
      none a b = ap (λ (c : Bool). a && c) (and-false b) ∙ and-false a

      by : (b : Bool) → bytes_eq key k ≡ b → (test k && (field && bytes_eq key k)) ≡ (test key && (field && bytes_eq key k))
      by true is = ap (λ (l : List ℕ). test l && (field && bytes_eq key k)) (sym ((bytes_decides key k).0 is))
      by false is = rw is (none (test k) field ∙ sym (none (test key) field))

  ordered : (a b c d : Bool) → (b ≡ true → d ≡ true) → ((a && b) && (c && d)) ≡ ((b && c) && a)
  ordered true true c d there = rw (there refl) refl
  ordered true false c d there = refl
  ordered false true c d there = sym (and-false c)
  ordered false false c d there = refl

  -- what a token says, said of the keys in the range
  key_test : (t : IndexToken) → ((t.field == range.prefix.field) ≡ true → has_key keys t.key ≡ true)
      → list_any (λ (k : List ℕ). test k && is_at range.prefix.field k t) (filter (in_range range) keys) ≡ ((t.field == range.prefix.field) && in_range range t.key && test t.key)
  key_test t there =
      any_alike (λ (k : List ℕ). test k && is_at range.prefix.field k t) (λ (k : List ℕ). test t.key && ((t.field == range.prefix.field) && bytes_eq t.key k)) (filter (in_range range) keys) (same_test (t.field == range.prefix.field) t.key)
      ∙ kept_has (test t.key) (t.field == range.prefix.field) t.key (in_range range) keys
      ∙ ordered (test t.key) (t.field == range.prefix.field) (in_range range t.key) (has_key keys t.key) there

  keys_test : (us : List IndexToken) → AllByRecursion (λ (t : IndexToken). (t.field == range.prefix.field) ≡ true → has_key keys t.key ≡ true) us
      → list_any (λ (t : IndexToken). list_any (λ (k : List ℕ). test k && is_at range.prefix.field k t) (filter (in_range range) keys)) us ≡ list_any (λ (t : IndexToken). (t.field == range.prefix.field) && in_range range t.key && test t.key) us
  keys_test [] there = refl
  keys_test (u ∷ us) there = rw (key_test u there.0, keys_test us there.1) refl

  -- the test of the keys in the range is that of the tokens in it, where each key that occurred is there
  pub tests_have : ((key : List ℕ) → occurs range.prefix.field key ts ≡ true → has_key keys key ≡ true) → ((key : List ℕ) → occurs range.prefix.field key ts ≡ false → test key ≡ false)
      → list_any test (filter (in_range range) keys) ≡ list_any (λ (t : IndexToken). (t.field == range.prefix.field) && in_range range t.key && test t.key) ts
  tests_have kept absent =
      any_alike test (λ (k : List ℕ). list_any (λ (t : IndexToken). test k && is_at range.prefix.field k t) ts) (filter (in_range range) keys) (passes_with absent)
      ∙ turned (λ (k : List ℕ) (t : IndexToken). test k && is_at range.prefix.field k t) (filter (in_range range) keys) ts
      ∙ keys_test ts (both_hold range.prefix.field ts ts keys kept (occurred range.prefix.field ts ts (λ p is. is)))

-- Laws of the documents with the greatest counts.
use Rattle.std.proofs.Common.{◌≡◌, ℕ, zero, suc, ◌+◌, ◌<◌, ◌≤◌, Bool, true, false, List, [], ◌∷◌, ◌++◌, length, take, insert, get_or, nat_le, refl, sym, ap, ◌∙◌, arith}
use Rattle.std.specs.List.{fold}
use Rattle.std.proofs.lemmas.Bool.{le-leb, lt-leb, leb-true, leb-false}
use Rattle.std.proofs.lemmas.List.{take-append-le, take_all}
use Rattle.ii_base.specs.declared.doc_id.TheConstants.{TERMINATED}
use Rattle.ii_base.specs.Entries.{Entry}
use Rattle.ii_docset.specs.Cursor.{doc_at}
use Rattle.ii_reader.specs.Bounds.{is_wanted, sought_with_freq}
use Rattle.ii_search.specs.TopByCount.{placed}

-- where an entry is placed
pub placed_at : (e : ℕ × ℕ) (bs : List (ℕ × ℕ)) (i : ℕ) → i ≤ length bs → ((j : ℕ) → j < i → e.1 ≤ (get_or bs j (0, 0)).1) → (i < length bs → (get_or bs i (0, 0)).1 < e.1) → placed e bs ≡ insert bs i e
placed_at e [] zero within before after = refl
placed_at e [] (suc i) within before after = absurd (omega arith)
placed_at e (b ∷ bs) zero within before after = let low = lt-leb e.1 b.1 (after (omega arith)) in rw low refl
placed_at e (b ∷ bs) (suc i) within before after =
    let high = le-leb e.1 b.1 (before 0 (omega arith)) in
    let later = placed_at e bs i (omega arith) (λ j below. before (suc j) (omega arith)) (λ inside. after (omega arith)) in
    rw high (ap (λ (rest : List (ℕ × ℕ)). b ∷ rest) later)

-- only the first n matter
take_again : (n : ℕ) (b : ℕ × ℕ) (bs : List (ℕ × ℕ)) → take n (b ∷ bs) ≡ take n (b ∷ take n bs)
take_again zero b bs = refl
take_again (suc n) b bs = ap (λ (rest : List (ℕ × ℕ)). b ∷ rest) (take_less n bs)
  where
    take_less : (n : ℕ) (bs : List (ℕ × ℕ)) → take n bs ≡ take n (take (suc n) bs)
    take_less zero bs = refl
    take_less (suc n) [] = refl
    take_less (suc n) (b ∷ bs) = ap (λ (rest : List (ℕ × ℕ)). b ∷ rest) (take_less n bs)

placed_first : (n : ℕ) (e : ℕ × ℕ) (bs : List (ℕ × ℕ)) → take n (placed e bs) ≡ take n (placed e (take n bs))
placed_first zero e bs = refl
placed_first (suc n) e [] = refl
placed_first (suc n) e (b ∷ bs) = by (nat_le e.1 b.1) refl (placed_first n e bs)
  where
    by : (t : Bool) → nat_le e.1 b.1 ≡ t → take n (placed e bs) ≡ take n (placed e (take n bs)) → take (suc n) (placed e (b ∷ bs)) ≡ take (suc n) (placed e (take (suc n) (b ∷ bs)))
    by true test later = rw test (ap (λ (rest : List (ℕ × ℕ)). b ∷ rest) later)
    by false test later = rw test (ap (λ (rest : List (ℕ × ℕ)). e ∷ rest) (take_again n b bs))

-- what follows a sorted row
abbrev pub after : List (ℕ × ℕ) → List Entry → List (ℕ × ℕ)
after bs es = fold (λ (sorted : List (ℕ × ℕ)) (e : Entry). placed (e.doc, e.term_freq) sorted) bs es

pub take_twice : (n : ℕ) (bs : List (ℕ × ℕ)) → take n (take n bs) ≡ take n bs
take_twice zero bs = refl
take_twice (suc n) [] = refl
take_twice (suc n) (b ∷ bs) = ap (λ (rest : List (ℕ × ℕ)). b ∷ rest) (take_twice n bs)

pub after_first : (n : ℕ) (bs : List (ℕ × ℕ)) (es : List Entry) → take n (after bs es) ≡ take n (after (take n bs) es)
after_first n bs [] = sym (take_twice n bs)
after_first n bs (e ∷ es) =
    after_first n (placed (e.doc, e.term_freq) bs) es
    ∙ ap (λ (row : List (ℕ × ℕ)). take n (after row es)) (placed_first n (e.doc, e.term_freq) bs)
    ∙ sym (after_first n (placed (e.doc, e.term_freq) (take n bs)) es)

-- an entry that all of the first n outdo
placed_last : (e : ℕ × ℕ) (bs : List (ℕ × ℕ)) → ((k : ℕ) → k < length bs → e.1 ≤ (get_or bs k (0, 0)).1) → placed e bs ≡ bs ++ e ∷ []
placed_last e [] all = refl
placed_last e (b ∷ bs) all =
    let high = le-leb e.1 b.1 (all 0 (omega arith)) in
    rw high (ap (λ (rest : List (ℕ × ℕ)). b ∷ rest) (placed_last e bs (λ k below. all (suc k) (omega arith))))

outdone : (n : ℕ) (e : ℕ × ℕ) (bs : List (ℕ × ℕ)) → length bs ≡ n → ((k : ℕ) → k < length bs → e.1 ≤ (get_or bs k (0, 0)).1) → take n (placed e bs) ≡ bs
outdone n e bs many all = ap (take n) (placed_last e bs all) ∙ take-append-le n bs (e ∷ []) (omega arith) ∙ take_all n bs (omega arith)

-- What is known of the first n, and the count that one more needs.
pub record AreBest (n least : ℕ) (bs : List (ℕ × ℕ)) : Type 0 where
  pub few : length bs ≤ n
  pub none : length bs < n → least ≡ 0
  pub all : (k : ℕ) → k < length bs → least ≤ (get_or bs k (0, 0)).1 + 1

-- entries that a seek by count passes aren't among the first n
pub passed_one : (n least : ℕ) (bs : List (ℕ × ℕ)) (x : Entry) (es : List Entry) → AreBest n least bs → x.term_freq < least → take n (after bs (x ∷ es)) ≡ take n (after bs es)
passed_one n least bs x es b low =
    let few = b.few in
    let many : length bs ≡ n = by (nat_le n (length bs)) refl in
    after_first n (placed (x.doc, x.term_freq) bs) es
    ∙ ap (λ (row : List (ℕ × ℕ)). take n (after row es)) (outdone n (x.doc, x.term_freq) bs many (λ k below. let most = b.all k below in omega arith))
  where
    by : (t : Bool) → nat_le n (length bs) ≡ t → length bs ≡ n
    by true test = let more = leb-true n (length bs) test in let few = b.few in omega arith
    by false test = let less = leb-false n (length bs) test in let zero_is = b.none less in absurd (omega arith)

-- what is left gets shorter
sought_short : (target least : ℕ) (es : List Entry) → length (sought_with_freq target least es) ≤ length es
sought_short target least [] = omega arith
sought_short target least (x ∷ es) = by (is_wanted target least x) refl (sought_short target least es)
  where
    by : (t : Bool) → is_wanted target least x ≡ t → length (sought_with_freq target least es) ≤ length es → length (sought_with_freq target least (x ∷ es)) ≤ length (x ∷ es)
    by true test less = rw test (omega arith)
    by false test less = rw test (omega arith)

pub shorter : (doc least : ℕ) (now later : List Entry) → doc ≡ doc_at now → doc < TERMINATED → later ≡ sought_with_freq (doc + 1) least now → length later < length now
shorter doc least [] later here below on = absurd (omega arith)
shorter doc least (e ∷ es) later here below on =
    let next = lt-leb (doc + 1) e.doc (omega arith) in
    let on_is : later ≡ sought_with_freq (doc + 1) least es = on ∙ (rw next refl) in
    let less = sought_short (doc + 1) least es in
    rw on_is (omega arith)

-- What the documents with the greatest counts are.
use Rattle.std.proofs.Common.{inl, inr, ◌≡◌, ◌∙◌, ◌≤◌, ◌+◌, ℕ, zero, suc, Bool, true, false, List, [], ◌∷◌, length, take, min, nat_le, Contains, refl, sym, ap, subst, zero-lt-suc, suc-le-suc, le_of_suc-le-suc, le_trans, arith}
use Rattle.std.specs.Prelude.{◌⊎◌, ⊤, if◌then◌else◌}
use Rattle.std.specs.List.{AllByRecursion, fold}
use Rattle.std.proofs.lemmas.Bool.{leb-true, leb-false}
use Rattle.std.proofs.lemmas.List.{length-take}
use Rattle.ii_base.specs.Entries.{Entry}
use Rattle.ii_search.specs.TopByCount.{by_count, placed, top}

-- the document of an entry, with its count
abbrev doc_with_count : Entry → ℕ × ℕ
doc_with_count e = (e.doc, e.term_freq)

-- entries placed in a row, one after the other
abbrev after : List (ℕ × ℕ) → List Entry → List (ℕ × ℕ)
after bs es = fold (λ (sorted : List (ℕ × ℕ)) (e : Entry). placed (e.doc, e.term_freq) sorted) bs es

-- as many as there are
placed_longer : (e : ℕ × ℕ) (bs : List (ℕ × ℕ)) → length (placed e bs) ≡ suc (length bs)
placed_longer e [] = refl
placed_longer e (b ∷ bs) = by (nat_le e.1 b.1) (placed_longer e bs)
  where
    by : (t : Bool) → length (placed e bs) ≡ suc (length bs) → length (if t then b ∷ placed e bs else e ∷ b ∷ bs) ≡ suc (suc (length bs))
    by true later = ap suc later
    by false later = refl

after_longer : (bs : List (ℕ × ℕ)) (es : List Entry) → length (after bs es) ≡ length es + length bs
after_longer bs [] = omega arith
after_longer bs (e ∷ es) = omega (arith, after_longer (placed (doc_with_count e) bs) es, placed_longer (doc_with_count e) bs)

top_many : (n : ℕ) (es : List Entry) → length (top n es) ≡ min n (length es)
top_many n es = length-take n (by_count es) ∙ ap (min n) (omega (arith, after_longer [] es))

-- what holds of each entry holds of what is placed
all_placed : (P : ℕ × ℕ → Type 0) (e : ℕ × ℕ) (bs : List (ℕ × ℕ)) → P e → AllByRecursion P bs → AllByRecursion P (placed e bs)
all_placed P e [] own all = (own, tt)
all_placed P e (b ∷ bs) own all = by (nat_le e.1 b.1) (all_placed P e bs own all.1)
  where
    by : (t : Bool) → AllByRecursion P (placed e bs) → AllByRecursion P (if t then b ∷ placed e bs else e ∷ b ∷ bs)
    by true later = (all.0, later)
    by false later = (own, all)

there : {X : Type 0} (b x : X) (bs : List X) → Contains bs x → Contains (b ∷ bs) x
there b x bs (k, lt, at) = (suc k, suc-le-suc lt, at)

here_or_there : {X : Type 0} (b x : X) (bs : List X) → Contains (b ∷ bs) x → (b ≡ x) ⊎ Contains bs x
here_or_there b x bs (zero, lt, at) = inl at
here_or_there b x bs (suc k, lt, at) = inr (k, le_of_suc-le-suc lt, at)

all_after : (P : ℕ × ℕ → Type 0) (bs : List (ℕ × ℕ)) (es : List Entry) → AllByRecursion P bs → ((e : Entry) → Contains es e → P (doc_with_count e)) → AllByRecursion P (after bs es)
all_after P bs [] all each = all
all_after P bs (e ∷ es) all each =
    all_after P (placed (doc_with_count e) bs) es (all_placed P (doc_with_count e) bs (each e (zero, zero-lt-suc (length es), refl)) all)
    (λ x among. each x (there e x es among))

all_taken : (P : ℕ × ℕ → Type 0) (n : ℕ) (bs : List (ℕ × ℕ)) → AllByRecursion P bs → AllByRecursion P (take n bs)
all_taken P zero bs all = tt
all_taken P (suc n) [] all = tt
all_taken P (suc n) (b ∷ bs) all = (all.0, all_taken P n bs all.1)

-- counts that don't rise
abbrev Descends : List (ℕ × ℕ) → Type 0
Descends [] = ⊤
Descends (b ∷ bs) = AllByRecursion (λ (x : ℕ × ℕ). x.1 ≤ b.1) bs × Descends bs

all_below : (m n : ℕ) (bs : List (ℕ × ℕ)) → m ≤ n → AllByRecursion (λ (x : ℕ × ℕ). x.1 ≤ m) bs → AllByRecursion (λ (x : ℕ × ℕ). x.1 ≤ n) bs
all_below m n [] least all = tt
all_below m n (b ∷ bs) least all = (le_trans all.0 least, all_below m n bs least all.1)

placed_descends : (e : ℕ × ℕ) (bs : List (ℕ × ℕ)) → Descends bs → Descends (placed e bs)
placed_descends e [] down = (tt, tt)
placed_descends e (b ∷ bs) down = by (nat_le e.1 b.1) refl (placed_descends e bs down.1)
  where
    by : (t : Bool) → nat_le e.1 b.1 ≡ t → Descends (placed e bs) → Descends (if t then b ∷ placed e bs else e ∷ b ∷ bs)
    by true test later = (all_placed (λ (x : ℕ × ℕ). x.1 ≤ b.1) e bs (leb-true e.1 b.1 test) down.0, later)
    by false test later = let less : b.1 ≤ e.1 = omega (arith, leb-false e.1 b.1 test) in ((less, all_below b.1 e.1 bs less down.0), down)

after_descends : (bs : List (ℕ × ℕ)) (es : List Entry) → Descends bs → Descends (after bs es)
after_descends bs [] down = down
after_descends bs (e ∷ es) down = after_descends (placed (doc_with_count e) bs) es (placed_descends (doc_with_count e) bs down)

-- nothing is lost
placed_has : (e : ℕ × ℕ) (bs : List (ℕ × ℕ)) → Contains (placed e bs) e
placed_has e [] = (zero, zero-lt-suc zero, refl)
placed_has e (b ∷ bs) = by (nat_le e.1 b.1) (placed_has e bs)
  where
    by : (t : Bool) → Contains (placed e bs) e → Contains (if t then b ∷ placed e bs else e ∷ b ∷ bs) e
    by true later = there b e (placed e bs) later
    by false later = (zero, zero-lt-suc (suc (length bs)), refl)

placed_keeps : (e x : ℕ × ℕ) (bs : List (ℕ × ℕ)) → Contains bs x → Contains (placed e bs) x
placed_keeps e x [] (k, lt, at) = absurd (omega (arith, lt))
placed_keeps e x (b ∷ bs) among = by (nat_le e.1 b.1) (here_or_there b x bs among) (λ later. placed_keeps e x bs later)
  where
    by : (t : Bool) → (b ≡ x) ⊎ Contains bs x → (Contains bs x → Contains (placed e bs) x) → Contains (if t then b ∷ placed e bs else e ∷ b ∷ bs) x
    by true (inl same) keeps = (zero, zero-lt-suc (length (placed e bs)), same)
    by true (inr later) keeps = there b x (placed e bs) (keeps later)
    by false seen keeps = there e x (b ∷ bs) among

after_keeps : (x : ℕ × ℕ) (bs : List (ℕ × ℕ)) (es : List Entry) → Contains bs x → Contains (after bs es) x
after_keeps x bs [] among = among
after_keeps x bs (e ∷ es) among = after_keeps x (placed (doc_with_count e) bs) es (placed_keeps (doc_with_count e) x bs among)

after_has : (x : Entry) (bs : List (ℕ × ℕ)) (es : List Entry) → Contains es x → Contains (after bs es) (doc_with_count x)
after_has x bs [] (k, lt, at) = absurd (omega (arith, lt))
after_has x bs (e ∷ es) among = by (here_or_there e x es among) (λ later. after_has x (placed (doc_with_count e) bs) es later)
  where
    by : (e ≡ x) ⊎ Contains es x → (Contains es x → Contains (after (placed (doc_with_count e) bs) es) (doc_with_count x)) → Contains (after (placed (doc_with_count e) bs) es) (doc_with_count x)
    by (inl same) has = after_keeps (doc_with_count x) (placed (doc_with_count e) bs) es (subst (λ (y : Entry). Contains (placed (doc_with_count e) bs) (doc_with_count y)) same (placed_has (doc_with_count e) bs))
    by (inr later) has = has later

all_at : (P : ℕ × ℕ → Type 0) (bs : List (ℕ × ℕ)) (x : ℕ × ℕ) → AllByRecursion P bs → Contains bs x → P x
all_at P [] x all (k, lt, at) = absurd (omega (arith, lt))
all_at P (b ∷ bs) x all among = by (here_or_there b x bs among) (λ later. all_at P bs x all.1 later)
  where
    by : (b ≡ x) ⊎ Contains bs x → (Contains bs x → P x) → P x
    by (inl same) at = subst P same all.0
    by (inr later) at = at later

first_are_greatest : (n : ℕ) (bs : List (ℕ × ℕ)) (x : ℕ × ℕ) → Descends bs → Contains bs x → Contains (take n bs) x ⊎ AllByRecursion (λ (b : ℕ × ℕ). x.1 ≤ b.1) (take n bs)
first_are_greatest zero bs x down among = inr tt
first_are_greatest (suc n) [] x down (k, lt, at) = absurd (omega (arith, lt))
first_are_greatest (suc n) (b ∷ bs) x down among = by (here_or_there b x bs among) (λ later. first_are_greatest n bs x down.1 later)
  where
    further : Contains bs x → Contains (take n bs) x ⊎ AllByRecursion (λ (c : ℕ × ℕ). x.1 ≤ c.1) (take n bs) → Contains (b ∷ take n bs) x ⊎ AllByRecursion (λ (c : ℕ × ℕ). x.1 ≤ c.1) (b ∷ take n bs)
    further later (inl within) = inl (there b x (take n bs) within)
    further later (inr all) = inr (all_at (λ (c : ℕ × ℕ). c.1 ≤ b.1) bs x down.0 later, all)

    by : (b ≡ x) ⊎ Contains bs x → (Contains bs x → Contains (take n bs) x ⊎ AllByRecursion (λ (c : ℕ × ℕ). x.1 ≤ c.1) (take n bs)) → Contains (b ∷ take n bs) x ⊎ AllByRecursion (λ (c : ℕ × ℕ). x.1 ≤ c.1) (b ∷ take n bs)
    by (inl same) first = inl (zero, zero-lt-suc (length (take n bs)), same)
    by (inr later) first = further later (first later)

-- as the answer is told
pub best_are_many : (n : ℕ) (es : List Entry) (best : List (ℕ × ℕ)) → best ≡ top n es → length best ≡ min n (length es)
best_are_many n es best are = ap length are ∙ top_many n es

pub best_remained : (n : ℕ) (es : List Entry) (best : List (ℕ × ℕ)) → best ≡ top n es → AllByRecursion (λ (b : ℕ × ℕ). (e : Entry) × Contains es e × ((e.doc, e.term_freq) ≡ b)) best
best_remained n es best are =
    let P : ℕ × ℕ → Type 0 = λ (b : ℕ × ℕ). (e : Entry) × Contains es e × ((e.doc, e.term_freq) ≡ b) in
    subst (λ (bs : List (ℕ × ℕ)). AllByRecursion P bs) (sym are) (all_taken P n (by_count es) (all_after P [] es tt (λ e among. (e, among, refl))))

pub best_are_greatest : (n : ℕ) (es : List Entry) (best : List (ℕ × ℕ)) → best ≡ top n es → (e : Entry) → Contains es e → Contains best (e.doc, e.term_freq) ⊎ AllByRecursion (λ (b : ℕ × ℕ). e.term_freq ≤ b.1) best
best_are_greatest n es best are e among =
    subst (λ (bs : List (ℕ × ℕ)). Contains bs (doc_with_count e) ⊎ AllByRecursion (λ (b : ℕ × ℕ). e.term_freq ≤ b.1) bs) (sym are)
    (first_are_greatest n (by_count es) (doc_with_count e) (after_descends [] es tt) (after_has e [] es among))

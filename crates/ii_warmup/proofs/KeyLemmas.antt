-- The keys of terms, gathered in a set.
use Rattle.std.proofs.Common.{◌≡◌, ◌∙◌, ℕ, ◌||◌, Bool, true, false, List, [], ◌∷◌, Ordering, Vec, Global, bytes_eq, not, refl, sym}
use Rattle.std.proofs.Math.Bool.{or-true}
use Rattle.std.specs.Ordering.{nat_cmp}
use Rattle.std.specs.Cmp.Lexicographic.{bytes_decides, slice_cmp}
use Rattle.std.specs.declared.cmp.Ordering.TheVariants.{Less, Equal, Greater}
use Rattle.std.specs.BTreeSet.{insert_key}
use Rattle.std.specs.List.{AllByRecursion, list_any}
use Rattle.std.specs.List.Sorted.{IsStrictlySortedBy}
use Rattle.ii_termdict.specs.ReadBack.{AreAscending}
use Rattle.ii_termdict.proofs.SearchLemmas.{found_equal}
use Rattle.ii_warmup.specs.LookedUp.{key_items}

-- the order of keys by their bytes
abbrev pub by_items : Vec ℕ Global → Vec ℕ Global → Ordering
by_items x y = slice_cmp nat_cmp x.items y.items

later_items : (x : Vec ℕ Global) (ks : List (Vec ℕ Global)) → AllByRecursion (λ (y : Vec ℕ Global). by_items x y ≡ Less) ks → AllByRecursion (λ (y : List ℕ). slice_cmp nat_cmp x.items y ≡ Less) (key_items ks)
later_items x [] h = tt
later_items x (k ∷ ks) h = (h.0, later_items x ks h.1)

pub sorted_items : (ks : List (Vec ℕ Global)) → IsStrictlySortedBy by_items ks → AreAscending (key_items ks)
unfolding IsStrictlySortedBy
sorted_items [] h = tt
sorted_items (k ∷ ks) h = (later_items k ks h.0, sorted_items ks h.1)

or_same : (a r : Bool) → (a || (a || r)) ≡ true → (a || r) ≡ true
or_same true r h = refl
or_same false r h = h

or_later : (a b r s : Bool) → ((a || r) ≡ true → s ≡ true) → (a || (b || r)) ≡ true → (b || s) ≡ true
or_later a true r s ih h = refl
or_later a false r s ih h = ih h

-- a set with one more key
inserted : (q : List ℕ) (k : Vec ℕ Global) (ks : List (Vec ℕ Global)) → (bytes_eq q k.items || list_any (bytes_eq q) (key_items ks)) ≡ true → list_any (bytes_eq q) (key_items (insert_key by_items ks k)) ≡ true
inserted q k [] h = h
inserted q k (x ∷ xs) h = by (by_items k x) refl (inserted q k xs)
  where
    by : (o : Ordering) → by_items k x ≡ o → ((bytes_eq q k.items || list_any (bytes_eq q) (key_items xs)) ≡ true → list_any (bytes_eq q) (key_items (insert_key by_items xs k)) ≡ true) → list_any (bytes_eq q) (key_items (insert_key by_items (x ∷ xs) k)) ≡ true
    by Less is ih = rw is h
    by Equal is ih =
        let same : x.items ≡ k.items = found_equal k.items x.items is in
        rw is (rw same (or_same (bytes_eq q k.items) (list_any (bytes_eq q) (key_items xs)) (rw same at h)))
    by Greater is ih = rw is (or_later (bytes_eq q k.items) (bytes_eq q x.items) (list_any (bytes_eq q) (key_items xs)) (list_any (bytes_eq q) (key_items (insert_key by_items xs k))) ih h)

-- one more key of a term
pub one_more_key : (old new : List (Vec ℕ Global)) (k : Vec ℕ Global) (value key : List ℕ) (rest : Bool) → new ≡ insert_key by_items old k → k.items ≡ value → (list_any (bytes_eq key) (key_items old) || (bytes_eq value key || rest)) ≡ true
    → (list_any (bytes_eq key) (key_items new) || rest) ≡ true
one_more_key old new k value key rest new_is value_is h = by (list_any (bytes_eq key) (key_items old)) (bytes_eq value key) refl refl h
  where
    there : list_any (bytes_eq key) (key_items new) ≡ true → (list_any (bytes_eq key) (key_items new) || rest) ≡ true
    there is = rw is refl

    by : (a b : Bool) → list_any (bytes_eq key) (key_items old) ≡ a → bytes_eq value key ≡ b → (a || (b || rest)) ≡ true → (list_any (bytes_eq key) (key_items new) || rest) ≡ true
    by true b old_is is h = there (rw new_is (inserted key k old (rw old_is (or-true (bytes_eq key k.items)))))
    by false true old_is is h =
        let same : key ≡ k.items = sym ((bytes_decides value key).0 is) ∙ sym value_is in
        let here = (bytes_decides key k.items).1 same in
        there (rw new_is (inserted key k old (rw here refl)))
    by false false old_is is h = rw h (or-true (list_any (bytes_eq key) (key_items new)))

pub is_true : (b : Bool) → false ≡ not b → b ≡ true
is_true true h = refl
is_true false h = absurd (cc)

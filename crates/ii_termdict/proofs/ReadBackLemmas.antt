-- Laws of keys that ascend.
use Rattle.std.specs.Ordering.{nat_cmp}
use Rattle.std.specs.Cmp.Lexicographic.{slice_cmp}
use Rattle.std.specs.List.Sorted.{IsStrictlySortedBy}
use Rattle.std.specs.List.{AllByRecursion}
use Rattle.std.specs.declared.cmp.Ordering.TheVariants.{Less}
use Rattle.std.proofs.Common.{◌≡◌, ℕ, zero, suc, List, [], ◌∷◌, ◌++◌, length, refl, arith, length-append}
use Rattle.std.proofs.lemmas.Cmp.{nat_list_cmp_total}
use Rattle.std.proofs.lemmas.Map.Keys.{Less-from_sorted}
use Rattle.ii_termdict.specs.ReadBack.{AreAscending, LastKey}

pub none_ascend : AreAscending []
unfolding IsStrictlySortedBy
none_ascend = tt

all_push : (P : List ℕ → Type 0) (keys : List (List ℕ)) (key : List ℕ) → AllByRecursion P keys → P key → AllByRecursion P (keys ++ key ∷ [])
all_push P [] key h last = (last, tt)
all_push P (k ∷ ks) key h last = (h.0, all_push P ks key h.1 last)

below_new : (first : List ℕ) (keys : List (List ℕ)) (key last : List ℕ) → AreAscending (first ∷ keys) → LastKey (first ∷ keys) last → slice_cmp nat_cmp last key ≡ Less → slice_cmp nat_cmp first key ≡ Less
below_new first [] key last h is less = rw (is 0 refl) less
below_new first (k ∷ ks) key last h is less =
    let total = nat_list_cmp_total in
    let end = is (suc (length ks)) refl in
    let up = Less-from_sorted (slice_cmp nat_cmp) (first ∷ k ∷ ks) 0 (suc (length ks)) [] h (omega arith) (omega arith) in
    total.trans first last key (rw end at up) less

-- a key greater than the last one
pub ascending_more : (keys : List (List ℕ)) (key last : List ℕ) → AreAscending keys → LastKey keys last → slice_cmp nat_cmp last key ≡ Less → AreAscending (keys ++ key ∷ [])
unfolding IsStrictlySortedBy
ascending_more [] key last h is less = (tt, tt)
ascending_more (k ∷ ks) key last h is less =
    (all_push (λ l. slice_cmp nat_cmp k l ≡ Less) ks key h.0 (below_new k ks key last h is less), ascending_more ks key last h.1 (λ j end. is (suc j) (omega arith)) less)

pub last_key : (keys : List (List ℕ)) (key : List ℕ) → LastKey (keys ++ key ∷ []) key
last_key [] key zero end = refl
last_key [] key (suc j) end = absurd (omega arith)
last_key (k ∷ ks) key zero end = absurd (omega (arith, length-append ks (key ∷ [])))
last_key (k ∷ ks) key (suc j) end = last_key ks key j (omega arith)

pub no_last_key : (last : List ℕ) → LastKey [] last
no_last_key last k end = absurd (omega arith)

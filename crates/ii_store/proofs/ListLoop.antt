-- Reading items one after the other, as a loop does.
use Rattle.std.proofs.Common.{◌≡◌, ℕ, suc, ◌-◌, ◌+◌, ◌≤◌, ◌<◌, List, [], ◌∷◌, ◌++◌, Result, Ok, Err, refl, sym, ap, ◌∙◌, append_assoc, arith}
use Rattle.std.proofs.lemmas.List.{append-nil}
use Rattle.ii_store.specs.declared.faults.IndexFault.{IndexFault}
use Rattle.ii_store.specs.declared.faults.StoreFault.{StoreFault}
use Rattle.ii_store.specs.declared.faults.StoreFault.TheVariants as faults
use Rattle.ii_store.specs.Index.{◌>>=◌, Fails}
use Rattle.ii_store.specs.IndexMeta.{items_at}

-- what was read before, and what is still read
abbrev pub with_front : {A : Type 0} → List A → Result (List A × List ℕ) IndexFault → Result (List A × List ℕ) IndexFault
with_front front read = read >>= λ x. Ok (front ++ x.0, x.1)

module _ {A : Type 0} (item_at : List ℕ → Result (A × List ℕ) IndexFault) where
  regroup : (front : List A) (n : A) (read : Result (List A × List ℕ) IndexFault) → with_front front (read >>= λ x. Ok (n ∷ x.0, x.1)) ≡ with_front (front ++ n ∷ []) read
  regroup front n (Ok x) = ap (λ (ns : List A). Ok (ns, x.1)) (simp append_assoc)
  regroup front n (Err f) = refl

  pub goes_on : (front : List A) (count i : ℕ) (bytes : List ℕ) (n : A) (after : List ℕ) (total : Result (List A × List ℕ) IndexFault) → i < count → item_at bytes ≡ Ok (n, after)
      → with_front front (items_at item_at (count - i) bytes) ≡ total → with_front (front ++ n ∷ []) (items_at item_at (count - (i + 1)) after) ≡ total
  unfolding items_at
  goes_on front count i bytes n after total lt h so_far =
      let k : count - i ≡ suc (count - (i + 1)) = omega arith in
      let one : with_front front (items_at item_at (count - i) bytes) ≡ with_front (front ++ n ∷ []) (items_at item_at (count - (i + 1)) after) = rw (k, h) (regroup front n (items_at item_at (count - (i + 1)) after)) in
      sym one ∙ so_far

  pub ends : (e : StoreFault) (front : List A) (count i : ℕ) (bytes : List ℕ) (total : Result (List A × List ℕ) IndexFault) → i < count → Fails e (item_at bytes)
      → with_front front (items_at item_at (count - i) bytes) ≡ total → Fails e total
  unfolding items_at
  ends (faults.Directory fault) front count i bytes total lt h so_far = tt
  ends (faults.Index f) front count i bytes total lt h so_far =
      let k : count - i ≡ suc (count - (i + 1)) = omega arith in
      let one : with_front front (items_at item_at (count - i) bytes) ≡ Err f = rw (k, h) refl in
      sym so_far ∙ one

  pub is_done : (front : List A) (count i : ℕ) (bytes : List ℕ) (total : Result (List A × List ℕ) IndexFault) → count ≤ i → with_front front (items_at item_at (count - i) bytes) ≡ total → total ≡ Ok (front, bytes)
  unfolding items_at
  is_done front count i bytes total le so_far =
      let k : count - i ≡ 0 = omega arith in
      let one : with_front front (items_at item_at (count - i) bytes) ≡ Ok (front, bytes) = rw k (ap (λ (ns : List A). Ok (ns, bytes)) (append-nil front)) in
      sym so_far ∙ one

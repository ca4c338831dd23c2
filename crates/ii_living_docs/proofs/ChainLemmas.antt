-- Cursors one after the other.
use Rattle.std.proofs.Common.{◌≡◌, ◌∙◌, ℕ, zero, suc, ◌+◌, ◌<◌, ◌≤◌, List, [], ◌∷◌, ◌++◌, length, drop, get_or, set, Some, refl, sym, ap, arith, ◌⊎◌, inl, inr, subst, take, min, ◌^◌, ◌-◌}
use Rattle.std.specs.Prelude.{slice_get}
use Rattle.std.specs.List.{AllZip, flat_map, sum}
use Rattle.std.proofs.lemmas.List.Sums.{sum_by-append, sum_by-cons}
use Rattle.std.proofs.lemmas.List.{drop_all, length-append, take_all}
use Rattle.ii_base.specs.Entries.{Entry}
use Rattle.ii_base.specs.declared.doc_id.TheConstants.{TERMINATED}
use Rattle.ii_docset.specs.Cursor.{IsCurrent, IsSound, doc_at}
use Rattle.ii_docset.proofs.CursorLemmas.{length_below, nothing_left}
use Rattle.ii_living_docs.specs.Chain.{HasCurrent, IsAtCurrent, IsSumOfHints, chained}

module _ {D : Type 0} where
  -- what is read at a place is there
  pub at_place : (xs : List D) (k : ℕ) (x : D) → k < length xs → x ≡ get_or xs k x → slice_get xs k ≡ Some x
  at_place [] k x within is = absurd (omega (arith, within))
  at_place (y ∷ ys) zero x within is = ap Some (sym is)
  at_place (y ∷ ys) (suc k) x within is = at_place ys k x (omega (arith, within)) is

  pub place_within : (xs : List D) (k : ℕ) (x : D) → slice_get xs k ≡ Some x → k < length xs
  place_within [] k x at = absurd (cc)
  place_within (y ∷ ys) zero x at = omega arith
  place_within (y ∷ ys) (suc k) x at = omega (arith, place_within ys k x at)

  drop_at : (xs : List D) (k : ℕ) (x : D) → slice_get xs k ≡ Some x → drop k xs ≡ x ∷ drop (suc k) xs
  drop_at [] k x at = absurd (cc)
  drop_at (y ∷ ys) zero x at = let same : y ≡ x = cc in ap (λ z. z ∷ ys) same
  drop_at (y ∷ ys) (suc k) x at = drop_at ys k x at

  drop_set : (xs : List D) (k : ℕ) (x : D) → k < length xs → drop k (set xs k x) ≡ x ∷ drop (suc k) xs
  drop_set [] k x within = absurd (omega (arith, within))
  drop_set (y ∷ ys) zero x within = refl
  drop_set (y ∷ ys) (suc k) x within = drop_set ys k x (omega (arith, within))

module _ {D : Type 0} (rest : D → List Entry) where
  chained_at : (cursors : List D) (k : ℕ) (c : D) → slice_get cursors k ≡ Some c → chained rest cursors k ≡ rest c ++ chained rest cursors (suc k)
  chained_at cursors k c at = ap (flat_map rest) (drop_at cursors k c at)

  pub chained_end : (cursors : List D) (k : ℕ) → length cursors ≤ k → chained rest cursors k ≡ []
  chained_end cursors k end = ap (flat_map rest) (drop_all k cursors end)

  -- a cursor that has ended is passed
  pub passed : (cursors : List D) (k doc : ℕ) (c : D) → slice_get cursors k ≡ Some c → doc ≡ doc_at (rest c) → IsSound (rest c) → TERMINATED ≤ doc → chained rest cursors (k + 1) ≡ chained rest cursors k
  passed cursors k doc c at is sound end =
      let none : [] ≡ rest c = nothing_left (rest c) sound.ascending (omega (arith, is, end)) in
      let next : suc k ≡ k + 1 = omega arith in
      sym (chained_at cursors k c at ∙ ap (λ (es : List Entry). es ++ chained rest cursors (suc k)) (sym none) ∙ ap (chained rest cursors) next)

  first_of : (es others : List Entry) → IsCurrent es → doc_at es ≡ doc_at (es ++ others)
  first_of [] others current = absurd (omega (arith, current))
  first_of (e ∷ es) others current = refl

  first_dropped : (es others : List Entry) → IsCurrent es → drop 1 es ++ others ≡ drop 1 (es ++ others)
  first_dropped [] others current = absurd (omega (arith, current))
  first_dropped (e ∷ es) others current = refl

  -- the current document is that of the first cursor that has not ended
  pub doc_chained : (cursors : List D) (k : ℕ) (c : D) → IsAtCurrent rest cursors k → slice_get cursors k ≡ Some c → doc_at (rest c) ≡ doc_at (chained rest cursors k)
  doc_chained cursors k c at there = by at.here
    where
      by : (k ≡ length cursors) ⊎ HasCurrent rest cursors k → doc_at (rest c) ≡ doc_at (chained rest cursors k)
      by (inl end) = absurd (omega (arith, end, place_within cursors k c there))
      by (inr here) =
          let same : here.cursor ≡ c = let both : Some here.cursor ≡ Some c = sym here.there ∙ there in cc in
          first_of (rest c) (chained rest cursors (suc k)) (subst (λ (d : D). IsCurrent (rest d)) same here.current) ∙ sym (ap doc_at (chained_at cursors k c there))

  -- the first cursor advanced
  pub advanced_chain : (cursors : List D) (k : ℕ) (c new : D) → IsAtCurrent rest cursors k → slice_get cursors k ≡ Some c → rest new ≡ drop 1 (rest c) → chained rest (set cursors k new) k ≡ drop 1 (chained rest cursors k)
  advanced_chain cursors k c new at there moved = by at.here
    where
      by : (k ≡ length cursors) ⊎ HasCurrent rest cursors k → chained rest (set cursors k new) k ≡ drop 1 (chained rest cursors k)
      by (inl end) = absurd (omega (arith, end, place_within cursors k c there))
      by (inr here) =
          let same : here.cursor ≡ c = let both : Some here.cursor ≡ Some c = sym here.there ∙ there in cc in
          let current : IsCurrent (rest c) = subst (λ (d : D). IsCurrent (rest d)) same here.current in
          ap (flat_map rest) (drop_set cursors k new (place_within cursors k c there))
          ∙ ap (λ (es : List Entry). es ++ chained rest cursors (suc k)) moved
          ∙ first_dropped (rest c) (chained rest cursors (suc k)) current
          ∙ sym (ap (drop 1) (chained_at cursors k c there))

module _ {D : Type 0} (hints : D → ℕ → Type 0) where
  zip_more : (cs : List D) (ns : List ℕ) (c : D) (n : ℕ) → AllZip hints cs ns → hints c n → AllZip hints (cs ++ c ∷ []) (ns ++ n ∷ [])
  zip_more [] [] c n all holds = (holds, tt)
  zip_more [] (m ∷ ns) c n all holds = elim all [ ]
  zip_more (b ∷ cs) [] c n all holds = elim all [ ]
  zip_more (b ∷ cs) (m ∷ ns) c n all holds = (all.0, zip_more cs ns c n all.1 holds)

  dropped_more : (from k : ℕ) (cs : List D) (c : D) → from ≤ k → slice_get cs k ≡ Some c → drop from (take (suc k) cs) ≡ drop from (take k cs) ++ c ∷ []
  dropped_more from k [] c le at = absurd (cc)
  dropped_more zero zero (b ∷ cs) c le at = let same : b ≡ c = cc in ap (λ x. x ∷ []) same
  dropped_more zero (suc k) (b ∷ cs) c le at = ap (λ xs. b ∷ xs) (dropped_more zero k cs c (omega arith) at)
  dropped_more (suc from) zero (b ∷ cs) c le at = absurd (omega (arith, le))
  dropped_more (suc from) (suc k) (b ∷ cs) c le at = dropped_more from k cs c (omega (arith, le)) at

  none_before : (from : ℕ) (cs : List D) → drop from (take from cs) ≡ []
  none_before zero cs = refl
  none_before (suc from) [] = refl
  none_before (suc from) (c ∷ cs) = none_before from cs

  pub hints_none : (from : ℕ) (cs : List D) → IsSumOfHints hints (drop from (take from cs)) 0
  hints_none from cs = subst (λ (l : List D). IsSumOfHints hints l 0) (sym (none_before from cs)) (record { each = []; are = tt; is = omega arith })

  -- one more hint
  pub hints_more : (from k : ℕ) (cs : List D) (c : D) (sum hint new : ℕ) → from ≤ k → slice_get cs k ≡ Some c → IsSumOfHints hints (drop from (take k cs)) sum → hints c hint → new ≡ min (sum + hint) (2 ^ 32 - 1)
      → IsSumOfHints hints (drop from (take (k + 1) cs)) new
  hints_more from k cs c total hint new le at is holds saturated =
      let next : suc k ≡ k + 1 = omega arith in
      let one = dropped_more from k cs c le at in
      subst (λ (l : List D). IsSumOfHints hints l new) (sym one ∙ ap (λ (j : ℕ). drop from (take j cs)) next)
      (record { each = is.each ++ hint ∷ []; are = zip_more (drop from (take k cs)) is.each c hint is.are holds; is = omega (arith, saturated, is.is, sum_append is.each hint) })
    where
      sum_append : (ns : List ℕ) (n : ℕ) → sum (ns ++ n ∷ []) ≡ sum ns + n
      sum_append ns n =
          let last : 0 + n ≡ n = omega arith in
          sum_by-append (λ (m : ℕ). m) ns (n ∷ []) ∙ ap (λ (m : ℕ). sum ns + m) last

  pub hints_all : (from k : ℕ) (cs : List D) (total : ℕ) → length cs ≤ k → IsSumOfHints hints (drop from (take k cs)) total → IsSumOfHints hints (drop from cs) total
  hints_all from k cs total all is = subst (λ (l : List D). IsSumOfHints hints (drop from l) total) (take_all k cs all) is

-- hints, each at least the number of the cursor's documents
module _ {D : Type 0} (hints : D → ℕ → Type 0) (rest : D → List Entry) where
  alone : (cs : List D) (ns : List ℕ) → AllZip (λ (c : D) (n : ℕ). hints c n × (length (rest c) ≤ n)) cs ns → AllZip hints cs ns
  alone [] [] all = tt
  alone [] (n ∷ ns) all = elim all [ ]
  alone (c ∷ cs) [] all = elim all [ ]
  alone (c ∷ cs) (n ∷ ns) all = (all.0.0, alone cs ns all.1)

  enough : (cs : List D) (ns : List ℕ) → AllZip (λ (c : D) (n : ℕ). hints c n × (length (rest c) ≤ n)) cs ns → length (flat_map rest cs) ≤ sum ns
  enough [] [] all = omega arith
  enough [] (n ∷ ns) all = elim all [ ]
  enough (c ∷ cs) [] all = elim all [ ]
  enough (c ∷ cs) (n ∷ ns) all =
      let later = enough cs ns all.1 in
      let first = all.0.1 in
      let long = length-append (rest c) (flat_map rest cs) in
      let added = sum_by-cons (λ (m : ℕ). m) n ns in
      omega (arith, later, first, long, added)

  pub hints_alone : (cs : List D) (total : ℕ) → IsSumOfHints (λ (c : D) (n : ℕ). hints c n × (length (rest c) ≤ n)) cs total → IsSumOfHints hints cs total
  hints_alone cs total is = record { each = is.each; are = alone cs is.each is.are; is = is.is }

  pub hints_enough : (cs : List D) (total : ℕ) → IsSound (flat_map rest cs) → IsSumOfHints (λ (c : D) (n : ℕ). hints c n × (length (rest c) ≤ n)) cs total → length (flat_map rest cs) ≤ total
  hints_enough cs total sound is =
      let few = enough cs is.each is.are in
      let low = length_below (flat_map rest cs) sound.ascending in
      let all = is.is in
      omega (arith, few, low, all)

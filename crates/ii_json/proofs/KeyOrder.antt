-- Terms ordered by rank, type and value are ordered by the bytes of their keys.
use Rattle.std.proofs.Common.{◌≡◌, ℕ, zero, suc, ◌+◌, ◌<◌, ◌≤◌, Bool, true, false, cond, ◌==◌, List, [], ◌∷◌, map, length, get_or, refl, sym, ap, arith, ◌∙◌, Contains}
use Rattle.std.proofs.Common.{Ordering, Less, Equal, Greater}
use Rattle.std.specs.Cmp.{nat_cmp_is, ranked}
use Rattle.std.specs.Cmp.Lexicographic.{slice_cmp}
use Rattle.std.specs.List.{AllByRecursion}
use Rattle.std.specs.List.Sorted.{IsSorted, IsStrictlySortedBy}
use Rattle.std.specs.Ordering.{is_lt, nat_cmp, ordering_then}
use Rattle.std.proofs.lemmas.Cmp.{nat_list_cmp_total}
use Rattle.std.proofs.lemmas.List.{get_or-map, get_or_default}
use Rattle.ii_base.specs.Paths.{has_zero}
use Rattle.ii_base.specs.Values.{json_key}
use Rattle.ii_json.specs.PathRank.{StandAtRanks, is_smaller, path_rank, path_ranks}
use Rattle.ii_json.specs.PathTerms.{AreAscendingTerms, HasPath, PathTerm, key_of_term, ordered_id_of_term, path_of_term, term_cmp}
use Rattle.ii_json.proofs.CleanPaths.{or_left, or_right}
use Rattle.ii_json.proofs.RankLemmas.{at_place, count_more, less_from, not_below_itself}

-- the byte 0 that ends a path comes before every byte of one
above_zero : (h : ℕ) → (h == 0) ≡ false → 0 < h
above_zero zero is = absurd (cc)
above_zero (suc h) is = omega arith

keys_by_paths : (p q x y : List ℕ) → has_zero p ≡ false → has_zero q ≡ false → slice_cmp nat_cmp (json_key p x) (json_key q y) ≡ ordering_then (slice_cmp nat_cmp p q) (slice_cmp nat_cmp x y)
keys_by_paths [] [] x y p_none q_none = refl
keys_by_paths [] (h ∷ q) x y p_none q_none = rw (sym (nat_cmp_is 0 h Less (above_zero h (or_left (h == 0) (has_zero q) q_none)))) refl
keys_by_paths (h ∷ p) [] x y p_none q_none = rw (sym (nat_cmp_is h 0 Greater (above_zero h (or_left (h == 0) (has_zero p) p_none)))) refl
keys_by_paths (h ∷ p) (g ∷ q) x y p_none q_none =
    by (nat_cmp h g) (keys_by_paths p q x y (or_right (h == 0) (has_zero p) p_none) (or_right (g == 0) (has_zero q) q_none))
  where
    by : (o : Ordering) → slice_cmp nat_cmp (json_key p x) (json_key q y) ≡ ordering_then (slice_cmp nat_cmp p q) (slice_cmp nat_cmp x y)
        → ordering_then o (slice_cmp nat_cmp (json_key p x) (json_key q y)) ≡ ordering_then (ordering_then o (slice_cmp nat_cmp p q)) (slice_cmp nat_cmp x y)
    by Less rest = refl
    by Equal rest = rest
    by Greater rest = refl

-- paths of equal bytes are one
pub same_path : (p q : List ℕ) → slice_cmp nat_cmp p q ≡ Equal → p ≡ q
same_path [] [] is = refl
same_path [] (g ∷ q) is = absurd (cc)
same_path (h ∷ p) [] is = absurd (cc)
same_path (h ∷ p) (g ∷ q) is = by (nat_cmp h g) refl is (same_path p q)
  where
    by : (o : Ordering) → nat_cmp h g ≡ o → ordering_then o (slice_cmp nat_cmp p q) ≡ Equal → (slice_cmp nat_cmp p q ≡ Equal → p ≡ q) → h ∷ p ≡ g ∷ q
    by Less at is rest = absurd (cc)
    by Greater at is rest = absurd (cc)
    by Equal at is rest =
        let first : h ≡ g = ranked h g Equal (sym at) in
        let more : p ≡ q = rest is in
        rw (first, more) refl

-- a smaller path has a smaller rank
module _ (p q : List ℕ) (less : slice_cmp nat_cmp p q ≡ Less) where
  smaller_still : (other : List ℕ) (b : Bool) → is_smaller other p ≡ b → cond b 1 0 ≤ cond (is_smaller other q) 1 0
  smaller_still other true is = rw (nat_list_cmp_total.trans other p q (less_from (slice_cmp nat_cmp other p) is) less) (omega arith)
  smaller_still other false is = omega arith

  counts_more : (path other : List ℕ) (known : List (List ℕ)) → path_rank (other ∷ known) path ≡ cond (is_smaller other path) 1 0 + path_rank known path
  counts_more path other known = count_more (λ (o : List ℕ). is_smaller o path) other known

  no_greater_rank : (known : List (List ℕ)) → path_rank known p ≤ path_rank known q
  no_greater_rank [] = omega arith
  no_greater_rank (other ∷ known) =
      omega (arith, counts_more p other known, counts_more q other known, smaller_still other (is_smaller other p) refl, no_greater_rank known)

  smaller_rank : (known : List (List ℕ)) (i : ℕ) → i < length known → get_or known i p ≡ p → path_rank known p < path_rank known q
  smaller_rank [] i within is = absurd (omega (arith, within))
  smaller_rank (other ∷ known) zero within is =
      let at_p : is_smaller other p ≡ false = rw is (not_below_itself p) in
      let at_q : is_smaller other q ≡ true = rw (is, less) refl in
      omega (arith, counts_more p other known, counts_more q other known, ap {B = ℕ} (λ (b : Bool). cond b 1 0) at_p, ap {B = ℕ} (λ (b : Bool). cond b 1 0) at_q, no_greater_rank known)
  smaller_rank (other ∷ known) (suc i) within is =
      omega (arith, counts_more p other known, counts_more q other known, smaller_still other (is_smaller other p) refl, smaller_rank known i (omega (arith, within)) is)

-- known paths are ordered as their ranks are
module _ (known : List (List ℕ)) (p q : List ℕ) (p_in : Contains known p) (q_in : Contains known q) where
  ranks_by_paths : nat_cmp (path_rank known p) (path_rank known q) ≡ slice_cmp nat_cmp p q
  ranks_by_paths = by (slice_cmp nat_cmp p q) refl
    where
      by : (o : Ordering) → slice_cmp nat_cmp p q ≡ o → nat_cmp (path_rank known p) (path_rank known q) ≡ o
      by Less is = sym (nat_cmp_is (path_rank known p) (path_rank known q) Less (smaller_rank p q is known p_in.0 p_in.1 p_in.2))
      by Equal is = sym (nat_cmp_is (path_rank known p) (path_rank known q) Equal (ap (path_rank known) (same_path p q is)))
      by Greater is =
          let less : slice_cmp nat_cmp q p ≡ Less = rw (nat_list_cmp_total.antisymm q p, is) refl in
          sym (nat_cmp_is (path_rank known p) (path_rank known q) Greater (smaller_rank q p less known q_in.0 q_in.1 q_in.2))

-- the same for keys: by the ranks of their paths, then by the bytes after these
pub ranked_as_keys : (known : List (List ℕ)) (p q x y : List ℕ) → Contains known p → Contains known q → has_zero p ≡ false → has_zero q ≡ false
    → ordering_then (nat_cmp (path_rank known p) (path_rank known q)) (slice_cmp nat_cmp x y) ≡ slice_cmp nat_cmp (json_key p x) (json_key q y)
ranked_as_keys known p q x y p_in q_in p_none q_none =
    ap (λ (o : Ordering). ordering_then o (slice_cmp nat_cmp x y)) (ranks_by_paths known p q p_in q_in) ∙ sym (keys_by_paths p q x y p_none q_none)

-- what is sorted by one order is sorted by another that is the same on it
pub sorted_alike : {X : Type 0} (P : X → Type 0) (c d : X → X → Ordering) → ((x y : X) → P x → P y → c x y ≡ d x y) → (xs : List X) → AllByRecursion P xs → IsSorted c xs → IsSorted d xs
sorted_alike P c d same xs all sorted k e low high =
    ap is_lt (sym (same (get_or xs (k + 1) e) (get_or xs k e) (at_place P xs all (k + 1) e high) (at_place P xs all k e (omega (arith, high))))) ∙ sorted k e low high

module _ (known : List (List ℕ)) where
  path_is_known : (t : PathTerm) → HasPath known t → Contains known (path_of_term known t)
  path_is_known t has = (t.path_id, has.0, get_or_default known t.path_id (path_of_term known t) [] has.0)

  -- terms are ordered as their keys are
  pub terms_by_keys : (s t : PathTerm) → HasPath known s → HasPath known t → term_cmp known s t ≡ slice_cmp nat_cmp (key_of_term known s) (key_of_term known t)
  terms_by_keys s t s_has t_has =
      ap (λ (o : Ordering). ordering_then o (slice_cmp nat_cmp (s.code ∷ s.payload) (t.code ∷ t.payload)))
      (ranks_by_paths known (path_of_term known s) (path_of_term known t) (path_is_known s s_has) (path_is_known t t_has))
      ∙ sym (keys_by_paths (path_of_term known s) (path_of_term known t) (s.code ∷ s.payload) (t.code ∷ t.payload) s_has.1 t_has.1)

  all_below : (s : PathTerm) (terms : List PathTerm) → HasPath known s → AllByRecursion (HasPath known) terms → AllByRecursion (λ (t : PathTerm). term_cmp known s t ≡ Less) terms
      → AllByRecursion (λ (key : List ℕ). slice_cmp nat_cmp (key_of_term known s) key ≡ Less) (map (key_of_term known) terms)
  all_below s [] has each below = tt
  all_below s (t ∷ terms) has each below = (sym (terms_by_keys s t has each.0) ∙ below.0, all_below s terms has each.1 below.1)

  -- ascending terms have ascending keys
  pub keys_ascend : (terms : List PathTerm) → AllByRecursion (HasPath known) terms → AreAscendingTerms known terms → IsStrictlySortedBy (slice_cmp nat_cmp) (map (key_of_term known) terms)
  unfolding IsStrictlySortedBy
  keys_ascend [] each sorted = tt
  keys_ascend (t ∷ terms) each sorted = (all_below t terms each.0 each.1 sorted.0, keys_ascend terms each.1 sorted.1)

  -- the ordered id of a term is at its unordered id, and its path at the ordered id
  pub ordered_id_at : (t : PathTerm) → t.path_id < length known → get_or (path_ranks known) t.path_id 0 ≡ ordered_id_of_term known t
  ordered_id_at t within = get_or-map (path_rank known) known t.path_id [] 0 within

  pub path_at : (paths : List (List ℕ)) (t : PathTerm) → StandAtRanks known paths → t.path_id < length known → get_or paths (ordered_id_of_term known t) [] ≡ path_of_term known t
  path_at paths t stand within =
      sym (get_or-map (λ (path : List ℕ). get_or paths (path_rank known path) []) known t.path_id [] [] within)
      ∙ ap (λ (ps : List (List ℕ)). get_or ps t.path_id []) stand

-- Paths in the order of their bytes, and their ranks.
use Rattle.std.proofs.Common.{◌≡◌, ◌⊎◌, ℕ, zero, suc, ◌+◌, ◌<◌, ◌≤◌, ◌^◌, Bool, true, false, cond, List, [], ◌∷◌, ◌++◌, map, length, take, take_all, add-one, get_or, refl, sym, ap, arith, subst, ◌∙◌, Contains, inl, inr}
use Rattle.std.proofs.Common.{Ordering, Less, Equal, Greater}
use Rattle.std.specs.Prelude.{bytes_eq}
use Rattle.std.specs.Ordering.{is_lt, nat_cmp, ordering_reverse}
use Rattle.std.specs.Cmp.Lexicographic.{slice_cmp}
use Rattle.std.specs.List.{AllByRecursion, IsDistinct, count_by, dedup, dedup_from, range_with_len}
use Rattle.std.specs.List.Sorted.{IsPartitionPoint, IsPartitionedBy, IsPermutation, IsSorted, IsStrictlySortedBy}
use Rattle.std.proofs.lemmas.Bool.{cases_eq}
use Rattle.std.proofs.lemmas.Cmp.{nat_list_cmp_total, nat_list_eq_equiv, on_total}
use Rattle.std.proofs.lemmas.List.{ext_get_or, get_or-map, length-map, map-append, get_or_default}
use Rattle.std.proofs.lemmas.List.FromFn.{get_or-range_with_len, length-range_with_len}
use Rattle.std.proofs.lemmas.List.Kept.{IsStrictlySortedBy-dedup}
use Rattle.std.proofs.lemmas.List.Sums.{sum_by-cons}
use Rattle.std.proofs.lemmas.List.Sorted.{Contains-permutation, IsPermutation-map, IsPermutation-sym, length_permutation, sum_by-IsPermutation}
use Rattle.std.proofs.lemmas.Map.Keys.{IsDistinct-IsPermutation, IsDistinct-head, IsDistinct-tail, Less-from_sorted}
use Rattle.std.proofs.lemmas.Map.Text.{is_eq-slice_cmp}
use Rattle.std.proofs.lemmas.Simd.{map-map}
use Rattle.std.proofs.Math.Seq.{take-suc}
use Rattle.ii_json.specs.PathRank.{AreAscendingPaths, StandAtRanks, is_smaller, path_rank, path_ranks}
use Rattle.ii_json.specs.Paths.{AreDistinct}

pub count_more : {X : Type 0} (p : X → Bool) (x : X) (xs : List X) → count_by p (x ∷ xs) ≡ cond (p x) 1 0 + count_by p xs
count_more p x xs = sum_by-cons (λ (y : _). cond (p y) 1 0) x xs

abbrev order : List ℕ → List ℕ → Ordering
order = slice_cmp nat_cmp

-- what is sorted, with no two alike, ascends
module _ {K : Type 0} (E : K → K → Bool) (flips : (x y : K) → E x y ≡ E y x) where
  dedup_from_distinct : (k : K) (ks : List K) → IsDistinct E (k ∷ ks) → dedup_from E k ks ≡ k ∷ ks
  dedup_from_distinct k [] distinct = refl
  dedup_from_distinct k (y ∷ ys) distinct =
      let apart : E y k ≡ false = flips y k ∙ (IsDistinct-head E k (y ∷ ys) distinct).0 in
      rw apart (ap (λ (zs : List K). k ∷ zs) (dedup_from_distinct y ys (IsDistinct-tail E k (y ∷ ys) distinct)))

  dedup_distinct : (ks : List K) → IsDistinct E ks → dedup E ks ≡ ks
  dedup_distinct [] distinct = refl
  dedup_distinct (k ∷ ks) distinct = dedup_from_distinct k ks distinct

module _ {K L : Type 0} (c : L → L → Ordering) (f : K → L) where
  below_all : (k : K) (ks : List K) → AllByRecursion (λ (y : K). c (f k) (f y) ≡ Less) ks → AllByRecursion (λ (y : L). c (f k) y ≡ Less) (map f ks)
  below_all k [] below = tt
  below_all k (y ∷ ys) below = (below.0, below_all k ys below.1)

  mapped_ascends : (ks : List K) → IsStrictlySortedBy (λ (x y : K). c (f x) (f y)) ks → IsStrictlySortedBy c (map f ks)
  unfolding IsStrictlySortedBy
  mapped_ascends [] sorted = tt
  mapped_ascends (k ∷ ks) sorted = (below_all k ks sorted.0, mapped_ascends ks sorted.1)

module _ {K L : Type 0} (e : L → L → Bool) (f : K → L) where
  apart_each : (k : K) (ks : List K) → AllByRecursion (λ (y : L). e (f k) y ≡ false) (map f ks) → AllByRecursion (λ (y : K). e (f k) (f y) ≡ false) ks
  apart_each k [] apart = tt
  apart_each k (y ∷ ys) apart = (apart.0, apart_each k ys apart.1)

  distinct_parts : (ks : List K) → IsDistinct e (map f ks) → IsDistinct (λ (x y : K). e (f x) (f y)) ks
  unfolding IsDistinct
  distinct_parts [] distinct = tt
  distinct_parts (k ∷ ks) distinct = (apart_each k ks distinct.0, distinct_parts ks distinct.1)

pub sorted_ascends : {K : Type 0} (f : K → List ℕ) (known : List (List ℕ)) (ks ls : List K) → map f ks ≡ known → AreDistinct known → IsPermutation ks ls
    → IsSorted (λ (x y : K). order (f x) (f y)) ls → AreAscendingPaths (map f ls)
sorted_ascends {K} f known ks ls are distinct moved sorted =
    let parts = distinct_parts bytes_eq f ks (subst AreDistinct (sym are) distinct) in
    let flips : (x y : K) → bytes_eq (f x) (f y) ≡ bytes_eq (f y) (f x) = λ x y. nat_list_eq_equiv.symm (f x) (f y) in
    let still = IsDistinct-IsPermutation (λ (x y : K). bytes_eq (f x) (f y)) flips ks ls moved parts in
    let strict = IsStrictlySortedBy-dedup (on_total f nat_list_cmp_total) {E = λ (x y : K). bytes_eq (f x) (f y)} (λ x y. sym (is_eq-slice_cmp (f x) (f y))) ls sorted in
    let same = dedup_distinct (λ (x y : K). bytes_eq (f x) (f y)) flips ls still in
    mapped_ascends order f ls (subst (λ (zs : List K). IsStrictlySortedBy (λ (x y : K). order (f x) (f y)) zs) same strict)

pub sorted_permutes : {K : Type 0} (f : K → List ℕ) (known : List (List ℕ)) (ks ls : List K) → map f ks ≡ known → IsPermutation ks ls → IsPermutation known (map f ls)
sorted_permutes f known ks ls are moved = subst (λ (ps : List (List ℕ)). IsPermutation ps (map f ls)) are (IsPermutation-map f ks ls moved)

-- the order by bytes
not_less : (o : Ordering) → o ≡ ordering_reverse o → is_lt o ≡ false
not_less Less e = absurd (cc)
not_less Equal e = refl
not_less Greater e = refl

pub not_below_itself : (path : List ℕ) → is_smaller path path ≡ false
not_below_itself path = not_less (order path path) (nat_list_cmp_total.antisymm path path)

turned : (path other : List ℕ) → order path other ≡ Less → is_smaller other path ≡ false
turned path other less = rw (nat_list_cmp_total.antisymm other path, less) refl

smaller : (path other : List ℕ) → order path other ≡ Less → is_smaller path other ≡ true
smaller path other less = rw less refl

pub less_from : (o : Ordering) → is_lt o ≡ true → o ≡ Less
less_from Less is = refl
less_from Equal is = absurd (cc)
less_from Greater is = absurd (cc)

-- ranks among ascending paths
none_smaller : (path : List ℕ) (paths : List (List ℕ)) → AllByRecursion (λ (other : List ℕ). order path other ≡ Less) paths → path_rank paths path ≡ 0
none_smaller path [] above = refl
none_smaller path (other ∷ paths) above = rw (turned path other above.0) (none_smaller path paths above.1)

pub at_place : {X : Type 0} (P : X → Type 0) (xs : List X) → AllByRecursion P xs → (i : ℕ) (d : X) → i < length xs → P (get_or xs i d)
at_place P [] all i d within = absurd (omega (arith, within))
at_place P (x ∷ xs) all zero d within = all.0
at_place P (x ∷ xs) all (suc i) d within = at_place P xs all.1 i d (omega (arith, within))

rank_at : (paths : List (List ℕ)) → AreAscendingPaths paths → (i : ℕ) (d : List ℕ) → i < length paths → path_rank paths (get_or paths i d) ≡ i
unfolding IsStrictlySortedBy
rank_at [] sorted i d within = absurd (omega (arith, within))
rank_at (path ∷ paths) sorted zero d within = rw (not_below_itself path) (none_smaller path paths sorted.0)
rank_at (path ∷ paths) sorted (suc i) d within =
    let below = smaller path (get_or paths i d) (at_place (λ (other : List ℕ). order path other ≡ Less) paths sorted.0 i d (omega (arith, within))) in
    let more = count_more (λ (other : List ℕ). is_smaller other (get_or paths i d)) path paths in
    omega (arith, more, ap {B = ℕ} (λ (b : Bool). cond b 1 0) below, rank_at paths sorted.1 i d (omega (arith, within)))

-- ranks are counted alike in any order
pub rank_moved : (known paths : List (List ℕ)) (path : List ℕ) → IsPermutation known paths → path_rank paths path ≡ path_rank known path
rank_moved known paths path moved = sum_by-IsPermutation (λ (other : List ℕ). cond (is_smaller other path) 1 0) known paths moved

-- a path in an ascending list is at the index of its rank
module _ (paths : List (List ℕ)) (sorted : AreAscendingPaths paths) (path : List ℕ) (among : Contains paths path) where
  rank_is : path_rank paths path ≡ among.0
  rank_is = ap (path_rank paths) (sym among.2) ∙ rank_at paths sorted among.0 path among.1

  pub rank_within : path_rank paths path < length paths
  rank_within = omega (arith, rank_is, among.1)

  stands : get_or paths (path_rank paths path) path ≡ path
  stands = ap (λ (i : ℕ). get_or paths i path) rank_is ∙ among.2

kept_by : {X : Type 0} (g : X → X) (xs : List X) → ((x : X) → Contains xs x → g x ≡ x) → map g xs ≡ xs
kept_by g [] same = refl
kept_by g (x ∷ xs) same =
    ap (λ (y : _). y ∷ map g xs) (same x (0, omega (arith), refl)) ∙ ap (λ (ys : List _). x ∷ ys) (kept_by g xs (λ y among. same y (suc among.0, omega (arith, among.1), among.2)))

pub stand_at_ranks : (known paths : List (List ℕ)) → IsPermutation known paths → AreAscendingPaths paths → StandAtRanks known paths
stand_at_ranks known paths moved sorted = kept_by (λ (path : List ℕ). get_or paths (path_rank known path) []) known each
  where
    each : (path : List ℕ) → Contains known path → get_or paths (path_rank known path) [] ≡ path
    each path among =
        let there = Contains-permutation known paths path moved among in
        ap (λ (i : ℕ). get_or paths i []) (sym (rank_moved known paths path moved))
        ∙ get_or_default paths (path_rank paths path) [] path (rank_within paths sorted path there)
        ∙ stands paths sorted path there

-- the ranks of known paths are the numbers below their number, in some order
in_order : (paths : List (List ℕ)) → AreAscendingPaths paths → path_ranks paths ≡ range_with_len 0 (length paths)
in_order paths sorted =
    ext_get_or 0 (path_ranks paths) (range_with_len 0 (length paths)) (length-map paths (path_rank paths) ∙ sym (length-range_with_len 0 (length paths)))
    (λ i within. let inside : i < length paths = omega (arith, within, length-map paths (path_rank paths)) in
    omega (arith, get_or-map (path_rank paths) paths i [] 0 inside, rank_at paths sorted i [] inside, get_or-range_with_len 0 (length paths) i 0 inside))

same_ranks : (known paths qs : List (List ℕ)) → IsPermutation known paths → map (path_rank known) qs ≡ map (path_rank paths) qs
same_ranks known paths [] moved = refl
same_ranks known paths (q ∷ qs) moved = ap (λ (n : ℕ). n ∷ map (path_rank known) qs) (sym (rank_moved known paths q moved)) ∙ ap (λ (ns : List ℕ). path_rank paths q ∷ ns) (same_ranks known paths qs moved)

pub ranks_permute : (known paths : List (List ℕ)) → IsPermutation known paths → AreAscendingPaths paths → IsPermutation (range_with_len 0 (length known)) (path_ranks known)
ranks_permute known paths moved sorted =
    let ranks = IsPermutation-map (path_rank known) known paths moved in
    let numbers : map (path_rank known) paths ≡ range_with_len 0 (length known) = same_ranks known paths paths moved ∙ in_order paths sorted ∙ ap (range_with_len 0) (length_permutation known paths moved) in
    IsPermutation-sym (path_ranks known) (range_with_len 0 (length known)) (subst (IsPermutation (path_ranks known)) numbers ranks)

-- how many are smaller is where those begin that are not
count_mapped : {X : Type 0} (f : X → List ℕ) (path : List ℕ) (xs : List X) → count_by (λ (x : X). is_smaller (f x) path) xs ≡ path_rank (map f xs) path
count_mapped f path [] = refl
count_mapped f path (x ∷ xs) =
    count_more (λ (y : _). is_smaller (f y) path) x xs ∙ ap (λ (n : ℕ). cond (is_smaller (f x) path) 1 0 + n) (count_mapped f path xs)
    ∙ sym (count_more (λ (other : List ℕ). is_smaller other path) (f x) (map f xs))

count_at : {X : Type 0} (p : X → Bool) (xs : List X) (i : ℕ) → i ≤ length xs → IsPartitionPoint (λ (x : X). p x ≡ true) (λ (x : X). p x ≡ false) xs i → count_by p xs ≡ i
count_at p [] i within parted = omega (arith, within)
count_at p (x ∷ xs) zero within parted =
    rw (parted.1 0 x (omega (arith)) (omega (arith))) (count_at p xs zero (omega (arith)) ((λ k d low high. absurd (omega (arith, high))), (λ k d low high. parted.1 (suc k) d (omega (arith)) (omega (arith, high)))))
count_at p (x ∷ xs) (suc i) within parted =
    (omega (arith, count_more p x xs, ap {B = ℕ} (λ (b : Bool). cond b 1 0) (parted.0 0 x (omega (arith)) (omega (arith))), count_at p xs i (omega (arith, within)) ((λ k d low high. parted.0 (suc k) d (omega (arith)) (omega (arith, high))), (λ k d low high. parted.1 (suc k) d (omega (arith, low)) (omega (arith, high))))))

pub rank_at_point : {X : Type 0} (f : X → List ℕ) (path : List ℕ) (xs : List X) (i : ℕ) → i ≤ length xs
    → IsPartitionPoint (λ (x : X). is_smaller (f x) path ≡ true) (λ (x : X). is_smaller (f x) path ≡ false) xs i → i ≡ path_rank (map f xs) path
rank_at_point {X} f path xs i within parted = sym (count_at (λ (x : X). is_smaller (f x) path) xs i within parted) ∙ count_mapped f path xs

pub parted_by : {X : Type 0} (f : X → List ℕ) (path : List ℕ) (xs : List X) → AreAscendingPaths (map f xs) → IsPartitionedBy (λ (x : X). is_smaller (f x) path) xs
parted_by f path xs sorted i j d low within later = by_case (cases_eq i j)
  where
    by_case : (i ≡ j) ⊎ (i ≡ j → ⊥) → is_smaller (f (get_or xs i d)) path ≡ true
    by_case (inl same) = subst (λ (k : ℕ). is_smaller (f (get_or xs k d)) path ≡ true) (sym same) later
    by_case (inr apart) =
        let inside : i < length xs = omega (arith, low, within) in
        let less : order (get_or (map f xs) i []) (get_or (map f xs) j []) ≡ Less = Less-from_sorted order (map f xs) i j [] sorted (omega (arith, low, apart)) (omega (arith, within, length-map xs f)) in
        let first : order (f (get_or xs i d)) (f (get_or xs j d)) ≡ Less = rw (get_or-map f xs i d [] inside, get_or-map f xs j d [] within) at less in
        smaller (f (get_or xs i d)) path (nat_list_cmp_total.trans (f (get_or xs i d)) (f (get_or xs j d)) path first (less_from (order (f (get_or xs j d)) path) later))

-- a path that is known has an id of 32 bits
pub rank_fits : (paths : List (List ℕ)) (path : List ℕ) (place : ℕ) → AreAscendingPaths paths → Contains paths path → length paths ≤ 2 ^ 32 → place ≡ path_rank paths path → place < 2 ^ 32
rank_fits paths path place sorted among few is = omega (arith, rank_within paths sorted path among, few, is)

pub among_sorted : {K : Type 0} (f : K → List ℕ) (keys : List K) (known paths : List (List ℕ)) (i : ℕ) (k : K) → map f keys ≡ known → IsPermutation known paths → i < length keys → k ≡ get_or keys i k → Contains paths (f k)
among_sorted f keys known paths i k are moved within here =
    let mapped : Contains (map f keys) (f k) = (i, omega (arith, within, length-map keys f), get_or-map f keys i k (f k) within ∙ ap f (sym here)) in
    Contains-permutation known paths (f k) moved (subst (λ (ps : List (List ℕ)). Contains ps (f k)) are mapped)

pub few_sorted : {K : Type 0} (f : K → List ℕ) (keys : List K) (known paths : List (List ℕ)) → map f keys ≡ known → IsPermutation known paths → length keys ≤ 2 ^ 32 → length paths ≤ 2 ^ 32
few_sorted f keys known paths are moved few = omega (arith, length-map keys f, ap length are, length_permutation known paths moved, few)

-- ids that are appended one after the other
module _ {K : Type 0} (f : K → List ℕ) (keys : List K) (known paths : List (List ℕ)) (moved : IsPermutation known paths) where
  pub ranks_more : (ids : List ℕ) (i id : ℕ) (k : K) → ids ≡ map (λ (key : K). path_rank known (f key)) (take i keys) → i < length keys → k ≡ get_or keys i k → id ≡ path_rank paths (f k)
      → ids ++ id ∷ [] ≡ map (λ (key : K). path_rank known (f key)) (take (i + 1) keys)
  ranks_more ids i id k are within here is =
      let g : K → ℕ = λ key. path_rank known (f key) in
      let next : take (i + 1) keys ≡ take i keys ++ get_or keys i k ∷ [] = rw add-one (take-suc keys i k within) in
      let last : id ≡ g (get_or keys i k) = is ∙ rank_moved known paths (f k) moved ∙ ap g here in
      rw (next, are, last) (sym (map-append g (take i keys) (get_or keys i k ∷ [])))

pub ranks_all : {K : Type 0} (f : K → List ℕ) (keys : List K) (known : List (List ℕ)) (ids : List ℕ) (i : ℕ) → map f keys ≡ known → length keys ≤ i → ids ≡ map (λ (key : K). path_rank known (f key)) (take i keys) → ids ≡ path_ranks known
ranks_all f keys known ids i are ended is =
    is ∙ ap (map (λ (key : _). path_rank known (f key))) (take_all i keys ended) ∙ sym (map-map (path_rank known) f keys) ∙ ap (map (path_rank known)) are

-- Laws of the heap of the documents that are kept.
use Rattle.std.proofs.Common.{◌≡◌, ◌∙◌, ℕ, zero, suc, ◌-◌, ◌^◌, ◌<◌, ◌≤◌, false, List, [], ◌∷◌, ◌++◌, length, map, refl, sym, ap, subst, arith, drop, get_or, is_lt, slice_set, take}
use Rattle.std.specs.BinaryHeap.{IsUpperBound}
use Rattle.std.specs.List.{All, AllByRecursion}
use Rattle.std.specs.List.Sorted.{IsPermutation}
use Rattle.std.proofs.lemmas.Bool.Decides.{nat_tests}
use Rattle.std.proofs.lemmas.List.{append-nil, drop_all, take_all}
use Rattle.std.proofs.lemmas.List.Elements.{All-cons, All-from_recursion, All-head, recursion_from_All}
use Rattle.std.proofs.lemmas.List.Sorted.{All-permutation, IsPermutation-map, length_permutation}
use Rattle.ii_scorer.specs.TopDocs.{Fits, rank_key}
use Rattle.ii_scorer.specs.TopNComputer.{IsWorst, distance_cmp, with_distance}

abbrev Doc : Type 0
Doc = ℕ × ℕ

-- the order of the heap is that of the keys
not_after : (x y : Doc) → Fits x → Fits y → is_lt (distance_cmp x y) ≡ false → rank_key (with_distance y) ≤ rank_key (with_distance x)
not_after x y fit also up = grind (arith, nat_tests, fit.score, fit.doc, also.score, also.doc)

all_before : (x : Doc) (ys : List Doc) → Fits x → AllByRecursion Fits ys → IsUpperBound distance_cmp x ys → AllByRecursion (λ (a : Doc). rank_key a ≤ rank_key (with_distance x)) (map with_distance ys)
all_before x [] fit fits up = tt
all_before x (y ∷ ys) fit fits up = (not_after x y fit fits.0 up.0, all_before x ys fit fits.1 up.1)

-- so the first one is the worst
pub worst_first : (x : Doc) (items : List Doc) → 0 < length items → x ≡ get_or items 0 x → All Fits items → IsUpperBound distance_cmp x items → IsWorst (with_distance x) (map with_distance items)
worst_first x [] some is fits up = absurd (omega (arith, some))
worst_first x (y ∷ ys) some is fits up =
    let all = recursion_from_All Fits (y ∷ ys) fits in
    record {
      rest = map with_distance ys;
      first = ap (λ (a : Doc). with_distance a ∷ map with_distance ys) (sym is);
      last = All-from_recursion _ (map with_distance ys) (all_before x ys (subst Fits (sym is) all.0) all.1 up.1);
    }

-- documents with their distances fit, as they do with their scores
pub all_fit : (items : List Doc) → All Fits items → All Fits (map with_distance items)
all_fit items fits = All-from_recursion Fits (map with_distance items) (each items (recursion_from_All Fits items fits))
  where
    each : (xs : List Doc) → AllByRecursion Fits xs → AllByRecursion Fits (map with_distance xs)
    each [] all = tt
    each (x ∷ xs) all = (record { score = omega arith; doc = all.0.doc }, each xs all.1)

-- a distance taken twice is the score
pub taken_twice : (a : Doc) → Fits a → with_distance (with_distance a) ≡ a
taken_twice a fit = let same : 2 ^ 64 - 1 - (2 ^ 64 - 1 - a.0) ≡ a.0 = omega (arith, fit.score) in ap (λ (n : ℕ). (n, a.1)) same

-- documents of which the first are exchanged
abbrev pub first_exchanged : ℕ → List Doc → List Doc
first_exchanged zero xs = xs
first_exchanged (suc i) [] = []
first_exchanged (suc i) (x ∷ xs) = with_distance x ∷ first_exchanged i xs

pub exchanges_next : (i : ℕ) (xs : List Doc) (d : Doc) → i < length xs → slice_set (first_exchanged i xs) i (with_distance (get_or (first_exchanged i xs) i d)) ≡ first_exchanged (suc i) xs
exchanges_next i [] d inside = absurd (omega (arith, inside))
exchanges_next zero (x ∷ xs) d inside = refl
exchanges_next (suc i) (x ∷ xs) d inside = ap (λ (ys : List Doc). with_distance x ∷ ys) (exchanges_next i xs d (omega (arith, inside)))

pub exchanges_all : (i : ℕ) (xs : List Doc) → length xs ≤ i → first_exchanged i xs ≡ map with_distance xs
exchanges_all zero [] many = refl
exchanges_all zero (x ∷ xs) many = absurd (omega (arith, many))
exchanges_all (suc i) [] many = refl
exchanges_all (suc i) (x ∷ xs) many = ap (λ (ys : List Doc). with_distance x ∷ ys) (exchanges_all i xs (omega (arith, many)))

-- ---- a document in place of the first one
drop_fit : (items : List Doc) → All Fits items → All Fits (drop 1 items)
drop_fit items fits = All-from_recursion Fits (drop 1 items) (by items (recursion_from_All Fits items fits))
  where
    by : (xs : List Doc) → AllByRecursion Fits xs → AllByRecursion Fits (drop 1 xs)
    by [] all = tt
    by (x ∷ xs) all = all.1

pub replaced_fit : (items new : List Doc) (a : Doc) → Fits a → All Fits items → IsPermutation (a ∷ drop 1 items) new → All Fits new
replaced_fit items new a fit fits same = All-permutation Fits (a ∷ drop 1 items) new same (All-cons Fits a (drop 1 items) fit (drop_fit items fits))

pub replaced_length : (items new : List Doc) (a : Doc) → 0 < length items → IsPermutation (a ∷ drop 1 items) new → length new ≡ length items
replaced_length [] new a some same = absurd (omega (arith, some))
replaced_length (x ∷ xs) new a some same = length_permutation (a ∷ xs) new same

pub added_kept : (items new : List Doc) (a : Doc) → Fits a → IsPermutation (with_distance a ∷ items) new → IsPermutation (a ∷ map with_distance items) (map with_distance new)
added_kept items new a fit same = subst (λ (x : Doc). IsPermutation (x ∷ map with_distance items) (map with_distance new)) (taken_twice a fit) (IsPermutation-map with_distance (with_distance a ∷ items) new same)

pub replaced_kept : (items new : List Doc) (a worst : Doc) (w : IsWorst worst (map with_distance items)) → Fits a → IsPermutation (with_distance a ∷ drop 1 items) new → IsPermutation (a ∷ w.rest) (map with_distance new)
replaced_kept items new a worst w fit same = subst (λ (xs : List Doc). IsPermutation (a ∷ xs) (map with_distance new)) (rest_is items w.first) (added_kept (drop 1 items) new a fit same)
  where
    rest_is : (xs : List Doc) → map with_distance xs ≡ worst ∷ w.rest → map with_distance (drop 1 xs) ≡ w.rest
    rest_is [] is = absurd (cc)
    rest_is (x ∷ xs) is = cc

pub distance_fits : (a : Doc) → Fits a → Fits (with_distance a)
distance_fits a fit = record { score = omega arith; doc = fit.doc }

pub first_fits : (items : List Doc) (worst : Doc) → IsWorst worst (map with_distance items) → All Fits items → Fits worst
first_fits items worst w fits = All-head Fits worst w.rest (subst (All Fits) w.first (all_fit items fits))

-- a list written over one of the same length
pub written_over : (n : ℕ) (new old : List Doc) → length new ≡ n → length old ≡ n → take n (new ++ drop (length new) old) ≡ new
written_over n new old long same =
    ap (λ (xs : List Doc). take n (new ++ xs)) (drop_all (length new) old (omega (arith, long, same))) ∙ ap (take n) (append-nil new) ∙ take_all n new (omega (arith, long))

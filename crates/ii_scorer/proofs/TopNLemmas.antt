-- Laws of the best of documents that come one by one.
use Rattle.std.proofs.Common.{◌≡◌, ℕ, zero, suc, ◌+◌, ◌-◌, ◌^◌, ◌<◌, ◌≤◌, inl, inr, Bool, true, false, List, [], ◌∷◌, ◌++◌, Option, None, Some, Result, Ok, Err, drop, get_or, length, min, nat_le, nat_lt, take, refl, sym, ap, ◌∙◌, subst, arith, append_assoc, if◌then◌else◌}
use Rattle.std.specs.Prelude.{⊤, IfOk, IfSome, Vec}
use Rattle.std.specs.declared.alloc.Global.{Global}
use Rattle.std.proofs.lemmas.Bool.{leb-true, leb-false, le-leb, ltb-false, ltb-true}
use Rattle.std.specs.Option.{SomeIff}
use Rattle.std.specs.List.{All, AllByRecursion}
use Rattle.std.specs.List.Sorted.{IsPermutation}
use Rattle.std.proofs.lemmas.List.{append-nil, drop-take, length-take, take-append-drop, take_all}
use Rattle.std.proofs.lemmas.List.Elements.{All-cons, All-from_recursion, All-get_or, All-head, recursion_from_All}
use Rattle.std.proofs.lemmas.List.Sorted.{All-permutation, IsPermutation-append_left, IsPermutation-cons, IsPermutation-middle, IsPermutation-append_right, IsPermutation-append_comm, IsPermutation-refl, IsPermutation-sym, IsPermutation-to_front, IsPermutation-trans, length_permutation, sum_by-IsPermutation}
use Rattle.std.proofs.lemmas.List.Sums.{count_by-le-length, sum_by-append, sum_by-cons}
use Rattle.ii_definitions.proofs.ListLaws.{all_both}
use Rattle.ii_scorer.specs.declared.top_docs.TopDocs.{TopDocs}
use Rattle.ii_scorer.specs.TopDocs.{AreBest, AreRanked, Fits, Precedes, rank_key}
use Rattle.ii_scorer.proofs.TopLemmas.{ranks}
use Rattle.ii_scorer.specs.TopNComputer.{IsTooLow, IsWorst, KeepsBest, MayBePassed, TopNState, num_reaching, num_up_to}

abbrev Doc : Type 0
Doc = ℕ × ℕ

abbrev up_to : ℕ → Doc → Bool
up_to key a = nat_le (rank_key a) key

-- how many of two lists have a key up to one
both : (key : ℕ) (xs ys : List Doc) → num_up_to key (xs ++ ys) ≡ num_up_to key xs + num_up_to key ys
both key xs ys = sum_by-append (λ (a : Doc). if up_to key a then 1 else 0) xs ys

-- no documents
pub none_kept : (n : ℕ) → KeepsBest [] (record { top_n = n; kept = [] })
none_kept n = record { others = []; same = IsPermutation-refl []; fits = All-from_recursion Fits [] tt; enough = All-from_recursion (λ (a : Doc). n ≤ num_up_to (rank_key a) []) [] tt }

-- ---- a document more
-- of a document that is kept
pub keeps_more : (scored : List Doc) (s : TopNState) (a : Doc) → KeepsBest scored s → KeepsBest (scored ++ a ∷ []) (record s { kept = s.kept ++ a ∷ [] })
keeps_more scored s a h = record { others = h.others; same = same; fits = h.fits; enough = All-from_recursion _ h.others (more h.others (recursion_from_All _ h.others h.enough)) }
  where
    more : (xs : List Doc) → AllByRecursion (λ (x : Doc). s.top_n ≤ num_up_to (rank_key x) s.kept) xs → AllByRecursion (λ (x : Doc). s.top_n ≤ num_up_to (rank_key x) (s.kept ++ a ∷ [])) xs
    more [] all = tt
    more (x ∷ xs) all = (omega (arith, all.0, both (rank_key x) s.kept (a ∷ [])), more xs all.1)

    same : IsPermutation (scored ++ a ∷ []) ((s.kept ++ a ∷ []) ++ h.others)
    same = IsPermutation-trans _ _ _ (IsPermutation-append_right' scored (s.kept ++ h.others) h.same)
        (subst (λ (xs : List Doc). IsPermutation ((s.kept ++ h.others) ++ a ∷ []) xs) (sym (append_assoc s.kept (a ∷ []) h.others))
        (subst (λ (xs : List Doc). IsPermutation xs (s.kept ++ (a ∷ [] ++ h.others))) (sym (append_assoc s.kept h.others (a ∷ []))) (IsPermutation-append_right s.kept _ _ (IsPermutation-append_comm h.others (a ∷ [])))))
      where
        IsPermutation-append_right' : (xs ys : List Doc) → IsPermutation xs ys → IsPermutation (xs ++ a ∷ []) (ys ++ a ∷ [])
        IsPermutation-append_right' xs ys p = IsPermutation-append_left (a ∷ []) xs ys p

-- of a document that is passed
pub passes_one : (scored : List Doc) (s : TopNState) (a : Doc) (key : ℕ) → Fits a → s.top_n ≤ num_up_to key s.kept → key ≤ rank_key a → KeepsBest scored s → KeepsBest (scored ++ a ∷ []) s
passes_one scored s a key fits wanted above h = record { others = h.others ++ a ∷ []; same = same; fits = All-from_recursion Fits (h.others ++ a ∷ []) (all_both Fits h.others (a ∷ []) (recursion_from_All Fits h.others h.fits) (fits, tt)); enough = All-from_recursion _ (h.others ++ a ∷ []) (more h.others (recursion_from_All _ h.others h.enough)) }
  where
    raised : (x : Doc) → (if up_to key x then 1 else 0) ≤ (if up_to (rank_key a) x then 1 else 0)
    raised x = by (up_to key x) refl
      where
        by : (b : Bool) → up_to key x ≡ b → (if b then 1 else 0) ≤ (if up_to (rank_key a) x then 1 else 0)
        by true is = rw (le-leb (rank_key x) (rank_key a) (let low = leb-true (rank_key x) key is in omega (arith, low, above))) (omega arith)
        by false is = omega arith

    fewer : (xs : List Doc) → num_up_to key xs ≤ num_up_to (rank_key a) xs
    fewer [] = omega arith
    fewer (x ∷ xs) = omega (arith, both key (x ∷ []) xs, both (rank_key a) (x ∷ []) xs, raised x, fewer xs)

    more : (xs : List Doc) → AllByRecursion (λ (x : Doc). s.top_n ≤ num_up_to (rank_key x) s.kept) xs → AllByRecursion (λ (x : Doc). s.top_n ≤ num_up_to (rank_key x) s.kept) (xs ++ a ∷ [])
    more [] all = (omega (arith, fewer s.kept), tt)
    more (x ∷ xs) all = (all.0, more xs all.1)

    same : IsPermutation (scored ++ a ∷ []) (s.kept ++ (h.others ++ a ∷ []))
    same = subst (λ (xs : List Doc). IsPermutation (scored ++ a ∷ []) xs) (append_assoc s.kept h.others (a ∷ [])) (IsPermutation-append_left (a ∷ []) scored (s.kept ++ h.others) h.same)

-- ---- documents in the order of their keys
abbrev pub Ascends : List Doc → Type 0
Ascends [] = ⊤
Ascends (x ∷ xs) = AllByRecursion (λ (y : Doc). rank_key x ≤ rank_key y) xs × Ascends xs

by_place : (P : Doc → Type 0) (xs : List Doc) → ((j : ℕ) → j < length xs → P (get_or xs j (0, 0))) → AllByRecursion P xs
by_place P [] each = tt
by_place P (x ∷ xs) each = (each 0 (omega arith), by_place P xs (λ j inside. each (suc j) (omega (arith, inside))))

ascends_from : (xs : List Doc) → ((i j : ℕ) → i ≤ j → j < length xs → rank_key (get_or xs i (0, 0)) ≤ rank_key (get_or xs j (0, 0))) → Ascends xs
ascends_from [] up = tt
ascends_from (x ∷ xs) up = (by_place (λ (y : Doc). rank_key x ≤ rank_key y) xs (λ j inside. up 0 (suc j) (omega arith) (omega (arith, inside))), ascends_from xs (λ i j low inside. up (suc i) (suc j) (omega (arith, low)) (omega (arith, inside))))

-- a ranked list is in the order of its keys
key_up : (a b : Doc) → Fits a → Precedes a b → rank_key a ≤ rank_key b
key_up a b fits (inl less) = omega (arith, fits.score, fits.doc, less)
key_up a b fits (inr same) = omega (arith, same.0, same.1)

pub ranked_ascends : (scored ranked : List Doc) → All Fits ranked → AreRanked scored ranked → Ascends ranked
ranked_ascends scored ranked fits are = ascends_from ranked (λ i j low inside. key_up (get_or ranked i (0, 0)) (get_or ranked j (0, 0)) (All-get_or Fits ranked i (0, 0) (omega (arith, low, inside)) fits) (are.order i j low inside))

all_drop : (P : Doc → Type 0) (n : ℕ) (xs : List Doc) → AllByRecursion P xs → AllByRecursion P (drop n xs)
all_drop P zero xs all = all
all_drop P (suc n) [] all = tt
all_drop P (suc n) (x ∷ xs) all = all_drop P n xs all.1

pub all_take : (P : Doc → Type 0) (n : ℕ) (xs : List Doc) → AllByRecursion P xs → AllByRecursion P (take n xs)
all_take P zero xs all = tt
all_take P (suc n) [] all = tt
all_take P (suc n) (x ∷ xs) all = (all.0, all_take P n xs all.1)

ascends_take : (n : ℕ) (xs : List Doc) → Ascends xs → Ascends (take n xs)
ascends_take zero xs up = tt
ascends_take (suc n) [] up = tt
ascends_take (suc n) (x ∷ xs) up = (all_take (λ (y : Doc). rank_key x ≤ rank_key y) n xs up.0, ascends_take n xs up.1)

abbrev weight : Bool → ℕ
weight b = if b then 1 else 0

counted : (key : ℕ) (x : Doc) (xs : List Doc) → num_up_to key (x ∷ xs) ≡ weight (up_to key x) + num_up_to key xs
counted key x xs = sum_by-cons (λ (a : Doc). weight (up_to key a)) x xs

with_one : (key : ℕ) (x : Doc) (xs : List Doc) → rank_key x ≤ key → num_up_to key (x ∷ xs) ≡ 1 + num_up_to key xs
with_one key x xs low = omega (arith, counted key x xs, ap weight (le-leb (rank_key x) key low))

without_one : (key : ℕ) (x : Doc) (xs : List Doc) → up_to key x ≡ false → num_up_to key (x ∷ xs) ≡ num_up_to key xs
without_one key x xs is = omega (arith, counted key x xs, ap weight is)

none_up_to : (key : ℕ) (x : Doc) (xs : List Doc) → key < rank_key x → AllByRecursion (λ (y : Doc). rank_key x ≤ rank_key y) xs → num_up_to key xs ≡ 0
none_up_to key x [] above all = refl
none_up_to key x (y ∷ xs) above all = by (up_to key y) refl (none_up_to key x xs above all.1)
  where
    by : (b : Bool) → up_to key y ≡ b → num_up_to key xs ≡ 0 → num_up_to key (y ∷ xs) ≡ 0
    by true is none = let low = leb-true (rank_key y) key is in absurd (omega (arith, low, above, all.0))
    by false is none = without_one key y xs is ∙ none

-- the first of those up to a key are as many as are wanted
first_enough : (n key : ℕ) (xs : List Doc) → Ascends xs → n ≤ num_up_to key xs → n ≤ num_up_to key (take n xs)
first_enough zero key xs up many = omega arith
first_enough (suc n) key [] up many = absurd (omega (arith, many))
first_enough (suc n) key (x ∷ xs) up many = by (up_to key x) refl (λ left. first_enough n key xs up.1 left)
  where
    by : (b : Bool) → up_to key x ≡ b → (n ≤ num_up_to key xs → n ≤ num_up_to key (take n xs)) → suc n ≤ num_up_to key (x ∷ take n xs)
    by true is later =
        let low = leb-true (rank_key x) key is in
        let left : n ≤ num_up_to key xs = omega (arith, with_one key x xs low, many) in
        omega (arith, with_one key x (take n xs) low, later left)
    by false is later = absurd (omega (arith, without_one key x xs is, none_up_to key x xs (leb-false (rank_key x) key is) up.0, many))

-- those that are dropped come after as many as are wanted
after_first : (n : ℕ) (xs : List Doc) → Ascends xs → AllByRecursion (λ (a : Doc). n ≤ num_up_to (rank_key a) (take n xs)) (drop n xs)
after_first zero xs up = all_of xs
  where
    all_of : (ys : List Doc) → AllByRecursion (λ (a : Doc). 0 ≤ num_up_to (rank_key a) []) ys
    all_of [] = tt
    all_of (y ∷ ys) = (omega arith, all_of ys)
after_first (suc n) [] up = tt
after_first (suc n) (x ∷ xs) up = more (drop n xs) (after_first n xs up.1) (all_drop (λ (y : Doc). rank_key x ≤ rank_key y) n xs up.0)
  where
    more : (ys : List Doc) → AllByRecursion (λ (a : Doc). n ≤ num_up_to (rank_key a) (take n xs)) ys → AllByRecursion (λ (y : Doc). rank_key x ≤ rank_key y) ys → AllByRecursion (λ (a : Doc). suc n ≤ num_up_to (rank_key a) (x ∷ take n xs)) ys
    more [] enough above = tt
    more (y ∷ ys) enough above =
        (omega (arith, with_one (rank_key y) x (take n xs) above.0, enough.0), more ys enough.1 above.1)

all_counted : (key : ℕ) (xs : List Doc) → AllByRecursion (λ (x : Doc). rank_key x ≤ key) xs → num_up_to key xs ≡ length xs
all_counted key [] all = refl
all_counted key (x ∷ xs) all = omega (arith, with_one key x xs all.0, all_counted key xs all.1)

few_up_to : (key : ℕ) (xs : List Doc) → num_up_to key xs ≤ length xs
few_up_to key xs = count_by-le-length (up_to key) xs

lower : (low high : ℕ) (xs : List Doc) → low ≤ high → AllByRecursion (λ (x : Doc). rank_key x ≤ low) xs → AllByRecursion (λ (x : Doc). rank_key x ≤ high) xs
lower low high [] le all = tt
lower low high (x ∷ xs) le all = (omega (arith, le, all.0), lower low high xs le all.1)

all_if_counted : (key : ℕ) (xs : List Doc) → length xs ≤ num_up_to key xs → AllByRecursion (λ (x : Doc). rank_key x ≤ key) xs
all_if_counted key [] many = tt
all_if_counted key (x ∷ xs) many = by (up_to key x) refl (λ left. all_if_counted key xs left)
  where
    by : (b : Bool) → up_to key x ≡ b → (length xs ≤ num_up_to key xs → AllByRecursion (λ (y : Doc). rank_key y ≤ key) xs) → AllByRecursion (λ (y : Doc). rank_key y ≤ key) (x ∷ xs)
    by true is rest = let low = leb-true (rank_key x) key is in (low, rest (omega (arith, with_one key x xs low, many)))
    by false is rest = absurd (omega (arith, without_one key x xs is, many, few_up_to key xs))

-- ---- those that aren't among the best are dropped
pub cuts : (scored : List Doc) (s : TopNState) (ranked : List Doc) → All Fits ranked → IsPermutation s.kept ranked → Ascends ranked → KeepsBest scored s → KeepsBest scored (record { top_n = s.top_n; kept = take s.top_n ranked })
cuts scored s ranked fits same up h = record { others = drop s.top_n ranked ++ h.others; same = all; fits = fitting; enough = All-from_recursion _ (drop s.top_n ranked ++ h.others) enough }
  where
    all : IsPermutation scored (take s.top_n ranked ++ (drop s.top_n ranked ++ h.others))
    all =
        subst (IsPermutation scored) (append_assoc (take s.top_n ranked) (drop s.top_n ranked) h.others)
        (subst (λ (xs : List Doc). IsPermutation scored (xs ++ h.others)) (sym (take-append-drop s.top_n ranked))
        (IsPermutation-trans _ _ _ h.same (IsPermutation-append_left h.others s.kept ranked same)))

    fitting : All Fits (drop s.top_n ranked ++ h.others)
    fitting = All-from_recursion Fits (drop s.top_n ranked ++ h.others) (all_both Fits (drop s.top_n ranked) h.others (all_drop Fits s.top_n ranked (recursion_from_All Fits ranked fits)) (recursion_from_All Fits h.others h.fits))

    still : (xs : List Doc) → AllByRecursion (λ (a : Doc). s.top_n ≤ num_up_to (rank_key a) s.kept) xs → AllByRecursion (λ (a : Doc). s.top_n ≤ num_up_to (rank_key a) (take s.top_n ranked)) xs
    still [] each = tt
    still (x ∷ xs) each =
        (first_enough s.top_n (rank_key x) ranked up (omega (arith, each.0, sum_by-IsPermutation (λ (a : Doc). if up_to (rank_key x) a then 1 else 0) s.kept ranked same)), still xs each.1)

    enough : AllByRecursion (λ (a : Doc). s.top_n ≤ num_up_to (rank_key a) (take s.top_n ranked)) (drop s.top_n ranked ++ h.others)
    enough = all_both (λ (a : Doc). s.top_n ≤ num_up_to (rank_key a) (take s.top_n ranked)) (drop s.top_n ranked) h.others (after_first s.top_n ranked up) (still h.others (recursion_from_All _ h.others h.enough))

none_without : (n : ℕ) (kept others : List Doc) → length kept < n → AllByRecursion (λ (a : Doc). n ≤ num_up_to (rank_key a) kept) others → others ≡ []
none_without n kept [] few all = refl
none_without n kept (x ∷ xs) few all = absurd (omega (arith, few, all.0, few_up_to (rank_key x) kept))

-- ---- a document takes the place of the worst
-- the order of those that are kept doesn't matter
pub kept_in_order : (scored kept sorted : List Doc) (n : ℕ) → IsPermutation kept sorted → KeepsBest scored (record { top_n = n; kept = kept }) → KeepsBest scored (record { top_n = n; kept = sorted })
kept_in_order scored kept sorted n same h = record {
  others = h.others;
  same = IsPermutation-trans _ _ _ h.same (IsPermutation-append_left h.others kept sorted same);
  fits = h.fits;
  enough = All-from_recursion _ h.others (more h.others (recursion_from_All _ h.others h.enough));
}
  where
    more : (xs : List Doc) → AllByRecursion (λ (a : Doc). n ≤ num_up_to (rank_key a) kept) xs → AllByRecursion (λ (a : Doc). n ≤ num_up_to (rank_key a) sorted) xs
    more [] all = tt
    more (x ∷ xs) all = (omega (arith, all.0, sum_by-IsPermutation (λ (a : Doc). if up_to (rank_key x) a then 1 else 0) kept sorted same), more xs all.1)

-- the worst is dropped if as many others are kept as are wanted
drops_worst : (scored rest : List Doc) (worst : Doc) (n : ℕ) → Fits worst → AllByRecursion (λ (a : Doc). rank_key a ≤ rank_key worst) rest → n ≤ length rest → KeepsBest scored (record { top_n = n; kept = worst ∷ rest }) → KeepsBest scored (record { top_n = n; kept = rest })
drops_worst scored rest worst n fits last many h = record {
  others = worst ∷ h.others;
  same = IsPermutation-trans _ _ _ h.same (IsPermutation-sym _ _ (IsPermutation-middle rest worst h.others));
  fits = All-cons Fits worst h.others fits h.fits;
  enough = All-from_recursion _ (worst ∷ h.others) (omega (arith, many, all_counted (rank_key worst) rest last), more h.others (recursion_from_All _ h.others h.enough));
}
  where
    enough : (a : Doc) → n ≤ num_up_to (rank_key a) (worst ∷ rest) → n ≤ num_up_to (rank_key a) rest
    enough a all = by (up_to (rank_key a) worst) refl
      where
        by : (b : Bool) → up_to (rank_key a) worst ≡ b → n ≤ num_up_to (rank_key a) rest
        by true is = let low = leb-true (rank_key worst) (rank_key a) is in omega (arith, many, all_counted (rank_key a) rest (lower (rank_key worst) (rank_key a) rest low last))
        by false is = omega (arith, all, without_one (rank_key a) worst rest is)

    more : (xs : List Doc) → AllByRecursion (λ (a : Doc). n ≤ num_up_to (rank_key a) (worst ∷ rest)) xs → AllByRecursion (λ (a : Doc). n ≤ num_up_to (rank_key a) rest) xs
    more [] all = tt
    more (x ∷ xs) all = (enough x all.0, more xs all.1)

-- a document is kept besides
pub adds_one : (scored kept new : List Doc) (n : ℕ) (a : Doc) → IsPermutation (a ∷ kept) new → KeepsBest scored (record { top_n = n; kept = kept }) → KeepsBest (scored ++ a ∷ []) (record { top_n = n; kept = new })
adds_one scored kept new n a same h = kept_in_order (scored ++ a ∷ []) (kept ++ a ∷ []) new n (IsPermutation-trans _ _ _ (IsPermutation-to_front kept a) same) (keeps_more scored (record { top_n = n; kept = kept }) a h)

-- and in place of the worst
pub replaces_worst : (scored kept new : List Doc) (n : ℕ) (a worst : Doc) (w : IsWorst worst kept) → All Fits kept → rank_key a < rank_key worst → n ≤ length kept → IsPermutation (a ∷ w.rest) new → KeepsBest scored (record { top_n = n; kept = kept }) → KeepsBest (scored ++ a ∷ []) (record { top_n = n; kept = new })
replaces_worst scored kept new n a worst w fits less many same h =
    let fit = All-head Fits worst w.rest (subst (All Fits) w.first fits) in
    let long : n ≤ length (a ∷ w.rest) = omega (arith, many, ap length w.first) in
    let both : KeepsBest (scored ++ a ∷ []) (record { top_n = n; kept = worst ∷ a ∷ w.rest }) = adds_one scored (worst ∷ w.rest) (worst ∷ a ∷ w.rest) n a (IsPermutation-middle (a ∷ []) worst w.rest) (subst (λ (xs : List Doc). KeepsBest scored (record { top_n = n; kept = xs })) w.first h) in
    kept_in_order (scored ++ a ∷ []) (a ∷ w.rest) new n same
    (drops_worst (scored ++ a ∷ []) (a ∷ w.rest) worst n fit (omega (arith, less), recursion_from_All _ w.rest w.last) long both)

-- ---- those that are kept, once they are as many as are wanted, come up to the worst
up_to_worst : (kept : List Doc) (worst : Doc) (w : IsWorst worst kept) → num_up_to (rank_key worst) kept ≡ length kept
up_to_worst kept worst w = subst (λ (xs : List Doc). num_up_to (rank_key worst) xs ≡ length xs) (sym w.first) (all_counted (rank_key worst) (worst ∷ w.rest) (omega arith, recursion_from_All _ w.rest w.last))

-- so one that comes after it may be passed
pub after_worst : (kept : List Doc) (n : ℕ) (worst a : Doc) → IsWorst worst kept → n ≤ length kept → rank_key worst ≤ rank_key a → MayBePassed (record { top_n = n; kept = kept }) a
after_worst kept n worst a w many above = record { key = rank_key worst; wanted = omega (arith, many, up_to_worst kept worst w); above = above }

-- ---- how many of the documents reach a score
reaching_both : (score : ℕ) (xs ys : List Doc) → num_reaching score (xs ++ ys) ≡ num_reaching score xs + num_reaching score ys
reaching_both score xs ys = sum_by-append (λ (d : Doc). if nat_le score d.0 then 1 else 0) xs ys

reaching_scored : (score : ℕ) (scored : List Doc) (s : TopNState) (h : KeepsBest scored s) → num_reaching score scored ≡ num_reaching score s.kept + num_reaching score h.others
reaching_scored score scored s h = sym (sum_by-IsPermutation (λ (d : Doc). if nat_le score d.0 then 1 else 0) scored (s.kept ++ h.others) h.same) ∙ reaching_both score s.kept h.others

reaches_not : (score : ℕ) (x : Doc) (xs : List Doc) → x.0 < score → num_reaching score (x ∷ xs) ≡ num_reaching score xs
reaches_not score x xs low = by (nat_le score x.0) refl
  where
    by : (b : Bool) → nat_le score x.0 ≡ b → num_reaching score (x ∷ xs) ≡ num_reaching score xs
    by true is = let up = leb-true score x.0 is in absurd (omega (arith, up, low))
    by false is = sum_by-cons (λ (d : Doc). if nat_le score d.0 then 1 else 0) x xs ∙ (let none = ap weight is in omega (arith, none))

-- fewer than are wanted reach any score, if fewer are kept
pub few_reach : (scored : List Doc) (s : TopNState) (score : ℕ) → length s.kept < s.top_n → KeepsBest scored s → num_reaching score scored < s.top_n
few_reach scored s score few h =
    let none = none_without s.top_n s.kept h.others few (recursion_from_All _ h.others h.enough) in
    let zero_others : num_reaching score h.others ≡ 0 = ap (num_reaching score) none in
    omega (arith, few, reaching_scored score scored s h, zero_others, count_by-le-length (λ (d : Doc). nat_le score d.0) s.kept)

-- those that were passed score no more than the worst that is kept
others_below : (kept : List Doc) (n score : ℕ) (worst : Doc) → IsWorst worst kept → length kept ≤ n → Fits worst → worst.0 < score → (xs : List Doc) → AllByRecursion Fits xs → AllByRecursion (λ (a : Doc). n ≤ num_up_to (rank_key a) kept) xs → num_reaching score xs ≡ 0
others_below kept n score worst w few fit low [] fits enough = refl
others_below kept n score worst w few fit low (x ∷ xs) fits enough =
    let all = all_if_counted (rank_key x) (worst ∷ w.rest) (subst (λ (ys : List Doc). length ys ≤ num_up_to (rank_key x) ys) w.first (omega (arith, few, enough.0))) in
    let below : x.0 < score = omega (arith, all.0, fits.0.score, fits.0.doc, fit.score, fit.doc, low) in
    reaches_not score x xs below ∙ others_below kept n score worst w few fit low xs fits.1 enough.1

-- fewer than are wanted reach a score that the worst one doesn't
pub few_above_worst : (scored kept : List Doc) (n score : ℕ) (worst : Doc) → IsWorst worst kept → All Fits kept → length kept ≤ n → worst.0 < score → KeepsBest scored (record { top_n = n; kept = kept }) → num_reaching score scored < n
few_above_worst scored kept n score worst w fits few low h =
    let fit = All-head Fits worst w.rest (subst (All Fits) w.first fits) in
    let none = others_below kept n score worst w few fit low h.others (recursion_from_All Fits h.others h.fits) (recursion_from_All _ h.others h.enough) in
    let one : num_reaching score kept ≡ num_reaching score w.rest = ap (num_reaching score) w.first ∙ reaches_not score worst w.rest low in
    omega (arith, few, reaching_scored score scored (record { top_n = n; kept = kept }) h, none, one, count_by-le-length (λ (d : Doc). nat_le score d.0) w.rest, ap length w.first)

-- the worst that is kept was pushed
pub worst_pushed : (P : Doc → Type 0) (scored kept : List Doc) (n : ℕ) (worst : Doc) → IsWorst worst kept → KeepsBest scored (record { top_n = n; kept = kept }) → All P scored → P worst
worst_pushed P scored kept n worst w h all = All-head P worst (w.rest ++ h.others) (subst (λ (xs : List Doc). All P (xs ++ h.others)) w.first (All-permutation P scored (kept ++ h.others) h.same all))

-- the least score is one more than that of the worst, if there is such a score
pub up_to_least : (worst score : ℕ) (least : Option ℕ) → score < 2 ^ 64 → SomeIff least (worst + 1 < 2 ^ 64) (worst + 1) → IsTooLow least score → score ≤ worst
up_to_least worst score None fits is low = by (nat_lt (worst + 1) (2 ^ 64)) refl
  where
    by : (b : Bool) → nat_lt (worst + 1) (2 ^ 64) ≡ b → score ≤ worst
    by true inside = absurd (is (ltb-true (worst + 1) (2 ^ 64) inside))
    by false outside = let above = ltb-false (worst + 1) (2 ^ 64) outside in omega (arith, fits, above)
up_to_least worst score (Some least) fits is low = omega (arith, low, is.1)

pub above_least : (worst : ℕ) (least : Option ℕ) → SomeIff least (worst + 1 < 2 ^ 64) (worst + 1) → (P : ℕ → Type 0) → ((score : ℕ) → worst < score → P score) → IfSome least (λ (from : ℕ). (score : ℕ) → from ≤ score → P score)
above_least worst None is P each = tt
above_least worst (Some least) is P each = λ score up. each score (omega (arith, up, is.1))

-- ---- a list in the order of its keys
record IsSorted (xs : List Doc) : Type 0 where
  pub sorted : List Doc
  pub same : IsPermutation xs sorted
  pub up : Ascends sorted

abbrev put : Doc → List Doc → List Doc
put a [] = a ∷ []
put a (x ∷ xs) = if nat_le (rank_key a) (rank_key x) then a ∷ x ∷ xs else x ∷ put a xs

put_same : (a : Doc) (xs : List Doc) → IsPermutation (a ∷ xs) (put a xs)
put_same a [] = IsPermutation-refl (a ∷ [])
put_same a (x ∷ xs) = by (nat_le (rank_key a) (rank_key x)) (put_same a xs)
  where
    by : (b : Bool) → IsPermutation (a ∷ xs) (put a xs) → IsPermutation (a ∷ x ∷ xs) (if b then a ∷ x ∷ xs else x ∷ put a xs)
    by true rest = IsPermutation-refl (a ∷ x ∷ xs)
    by false rest = IsPermutation-trans _ _ _ (IsPermutation-middle (a ∷ []) x xs) (IsPermutation-cons x (a ∷ xs) (put a xs) rest)

put_above : (low : ℕ) (a : Doc) (xs : List Doc) → low ≤ rank_key a → AllByRecursion (λ (y : Doc). low ≤ rank_key y) xs → AllByRecursion (λ (y : Doc). low ≤ rank_key y) (put a xs)
put_above low a [] own all = (own, tt)
put_above low a (x ∷ xs) own all = by (nat_le (rank_key a) (rank_key x)) (put_above low a xs own all.1)
  where
    by : (b : Bool) → AllByRecursion (λ (y : Doc). low ≤ rank_key y) (put a xs) → AllByRecursion (λ (y : Doc). low ≤ rank_key y) (if b then a ∷ x ∷ xs else x ∷ put a xs)
    by true rest = (own, all)
    by false rest = (all.0, rest)

raise : (low high : ℕ) (xs : List Doc) → low ≤ high → AllByRecursion (λ (y : Doc). high ≤ rank_key y) xs → AllByRecursion (λ (y : Doc). low ≤ rank_key y) xs
raise low high [] le all = tt
raise low high (x ∷ xs) le all = (omega (arith, le, all.0), raise low high xs le all.1)

put_up : (a : Doc) (xs : List Doc) → Ascends xs → Ascends (put a xs)
put_up a [] up = (tt, tt)
put_up a (x ∷ xs) up = by (nat_le (rank_key a) (rank_key x)) refl (put_up a xs up.1)
  where
    by : (b : Bool) → nat_le (rank_key a) (rank_key x) ≡ b → Ascends (put a xs) → Ascends (if b then a ∷ x ∷ xs else x ∷ put a xs)
    by true is rest = let low = leb-true (rank_key a) (rank_key x) is in ((low, raise (rank_key a) (rank_key x) xs low up.0), up)
    by false is rest = let high = leb-false (rank_key a) (rank_key x) is in (put_above (rank_key x) a xs (omega (arith, high)) up.0, rest)

sorts : (xs : List Doc) → IsSorted xs
sorts [] = record { sorted = []; same = IsPermutation-refl []; up = tt }
sorts (x ∷ xs) =
    let rest = sorts xs in
    record {
      sorted = put x rest.sorted;
      same = IsPermutation-trans _ _ _ (IsPermutation-cons x xs rest.sorted rest.same) (put_same x rest.sorted);
      up = put_up x rest.sorted rest.up;
    }

joins : (xs ys : List Doc) → Ascends xs → Ascends ys → AllByRecursion (λ (y : Doc). AllByRecursion (λ (x : Doc). rank_key x ≤ rank_key y) xs) ys → Ascends (xs ++ ys)
joins [] ys one two across = two
joins (x ∷ xs) ys one two across = (all_both (λ (y : Doc). rank_key x ≤ rank_key y) xs ys one.0 (firsts ys across), joins xs ys one.1 two (rests ys across))
  where
    firsts : (zs : List Doc) → AllByRecursion (λ (y : Doc). AllByRecursion (λ (z : Doc). rank_key z ≤ rank_key y) (x ∷ xs)) zs → AllByRecursion (λ (y : Doc). rank_key x ≤ rank_key y) zs
    firsts [] all = tt
    firsts (z ∷ zs) all = (all.0.0, firsts zs all.1)

    rests : (zs : List Doc) → AllByRecursion (λ (y : Doc). AllByRecursion (λ (z : Doc). rank_key z ≤ rank_key y) (x ∷ xs)) zs → AllByRecursion (λ (y : Doc). AllByRecursion (λ (z : Doc). rank_key z ≤ rank_key y) xs) zs
    rests [] all = tt
    rests (z ∷ zs) all = (all.0.1, rests zs all.1)

place_up : (xs : List Doc) (i j : ℕ) → Ascends xs → i ≤ j → j < length xs → rank_key (get_or xs i (0, 0)) ≤ rank_key (get_or xs j (0, 0))
place_up [] i j up low inside = absurd (omega (arith, inside))
place_up (x ∷ xs) zero zero up low inside = omega arith
place_up (x ∷ xs) zero (suc j) up low inside = All-get_or (λ (y : Doc). rank_key x ≤ rank_key y) xs j (0, 0) (omega (arith, inside)) (All-from_recursion _ xs up.0)
place_up (x ∷ xs) (suc i) zero up low inside = absurd (omega (arith, low))
place_up (x ∷ xs) (suc i) (suc j) up low inside = place_up xs i j up.1 (omega (arith, low)) (omega (arith, inside))

-- ---- the best of those that were kept are the best of all
take_same : (n : ℕ) (xs ys : List Doc) → n ≤ length xs → take n (take n xs ++ ys) ≡ take n xs
take_same zero xs ys many = refl
take_same (suc n) [] ys many = absurd (omega (arith, many))
take_same (suc n) (x ∷ xs) ys many = ap (λ (zs : List Doc). x ∷ zs) (take_same n xs ys (omega (arith, many)))

no_length : (xs : List Doc) → length xs ≡ 0 → xs ≡ []
no_length [] none = refl
no_length (x ∷ xs) none = absurd (omega (arith, none))

pub best_of_kept : (docs : TopDocs) (scored best : List Doc) (s : TopNState) → s.top_n ≡ min (2 ^ 64 - 1) (docs.offset + docs.limit) → length s.kept < 2 ^ 64 - 1 → All Fits s.kept → KeepsBest scored s → AreBest docs s.kept best → AreBest docs scored best
best_of_kept docs scored best s wanted few fits h b = record { ranked = all; are_ranked = record { same = same; order = order }; best_are = b.best_are ∙ taken (nat_le s.top_n (length b.ranked)) refl }
  where
    fitting : All Fits b.ranked
    fitting = All-permutation Fits s.kept b.ranked b.are_ranked.same fits

    up : Ascends b.ranked
    up = ranked_ascends s.kept b.ranked fitting b.are_ranked

    cut : KeepsBest scored (record { top_n = s.top_n; kept = take s.top_n b.ranked })
    cut = cuts scored s b.ranked fitting b.are_ranked.same up h

    last : IsSorted cut.others
    last = sorts cut.others

    IsEnough : Doc → Type 0
    IsEnough a = s.top_n ≤ num_up_to (rank_key a) (take s.top_n b.ranked)

    all : List Doc
    all = take s.top_n b.ranked ++ last.sorted

    same : IsPermutation scored all
    same = IsPermutation-trans _ _ _ cut.same (IsPermutation-append_right (take s.top_n b.ranked) cut.others last.sorted last.same)

    short : length (take s.top_n b.ranked) ≤ s.top_n
    short = omega (arith, length-take s.top_n b.ranked)

    across : (ys : List Doc) → AllByRecursion (λ (a : Doc). s.top_n ≤ num_up_to (rank_key a) (take s.top_n b.ranked)) ys → AllByRecursion (λ (y : Doc). AllByRecursion (λ (x : Doc). rank_key x ≤ rank_key y) (take s.top_n b.ranked)) ys
    across [] enough = tt
    across (y ∷ ys) enough = (all_if_counted (rank_key y) (take s.top_n b.ranked) (omega (arith, short, enough.0)), across ys enough.1)

    all_up : Ascends all
    all_up = joins (take s.top_n b.ranked) last.sorted (ascends_take s.top_n b.ranked up) last.up (across last.sorted (recursion_from_All IsEnough last.sorted (All-permutation IsEnough cut.others last.sorted last.same cut.enough)))

    all_fit : All Fits all
    all_fit = All-permutation Fits (take s.top_n b.ranked ++ cut.others) all (IsPermutation-append_right (take s.top_n b.ranked) cut.others last.sorted last.same)
        (All-from_recursion Fits (take s.top_n b.ranked ++ cut.others) (all_both Fits (take s.top_n b.ranked) cut.others (all_take Fits s.top_n b.ranked (recursion_from_All Fits b.ranked fitting)) (recursion_from_All Fits cut.others cut.fits)))

    order : (i j : ℕ) → i ≤ j → j < length all → Precedes (get_or all i (0, 0)) (get_or all j (0, 0))
    order i j low inside =
        let first = All-get_or Fits all i (0, 0) (omega (arith, low, inside)) all_fit in
        let other = All-get_or Fits all j (0, 0) inside all_fit in
        ranks (get_or all i (0, 0)) (get_or all j (0, 0)) first.score other.score first.doc other.doc (place_up all i j all_up low inside)

    long : length b.ranked ≡ length s.kept
    long = length_permutation s.kept b.ranked b.are_ranked.same

    taken : (t : Bool) → nat_le s.top_n (length b.ranked) ≡ t → take docs.limit (drop docs.offset b.ranked) ≡ take docs.limit (drop docs.offset all)
    taken true is =
        let many = leb-true s.top_n (length b.ranked) is in
        let exact : docs.offset + docs.limit ≡ s.top_n = omega (arith, wanted, many, long, few) in
        sym (drop-take docs.offset docs.limit b.ranked)
        ∙ ap (λ (n : ℕ). drop docs.offset (take n b.ranked)) exact
        ∙ ap (drop docs.offset) (sym (take_same s.top_n b.ranked last.sorted many))
        ∙ ap (λ (n : ℕ). drop docs.offset (take n all)) (sym exact)
        ∙ drop-take docs.offset docs.limit all
    taken false is =
        let less = leb-false s.top_n (length b.ranked) is in
        let whole : take s.top_n b.ranked ≡ b.ranked = take_all s.top_n b.ranked (omega (arith, less)) in
        let none : cut.others ≡ [] = none_without s.top_n (take s.top_n b.ranked) cut.others (omega (arith, less, ap length whole)) (recursion_from_All IsEnough cut.others cut.enough) in
        let end : last.sorted ≡ [] = no_length last.sorted (length_permutation cut.others last.sorted last.same ∙ ap length none) in
        ap (λ (xs : List Doc). take docs.limit (drop docs.offset xs)) (sym (append-nil b.ranked) ∙ ap (λ (xs : List Doc). xs ++ []) (sym whole) ∙ ap (λ (xs : List Doc). take s.top_n b.ranked ++ xs) (sym end))

pub best_if : {T : Type 0} (docs : TopDocs) (scored : List Doc) (s : TopNState) (r : Result (Vec Doc Global) T) → s.top_n ≡ min (2 ^ 64 - 1) (docs.offset + docs.limit) → length s.kept < 2 ^ 64 - 1 → All Fits s.kept → KeepsBest scored s → IfOk r (λ best. AreBest docs s.kept best.items) → IfOk r (λ best. AreBest docs scored best.items)
best_if docs scored s (Ok best) wanted few fits h b = best_of_kept docs scored best.items s wanted few fits h b
best_if docs scored s (Err e) wanted few fits h b = tt

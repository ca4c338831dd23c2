-- Laws of lists.
use Rattle.std.proofs.Common.{◌≡◌, ℕ, zero, suc, ◌+◌, ◌<◌, List, [], ◌∷◌, ◌++◌, drop, get_or, length, map, sym, ap, ◌∙◌, arith}
use Rattle.std.specs.List.{AllByRecursion, range_with_len}
use Rattle.std.proofs.lemmas.List.{drop_more, get_or-map, length-map}

-- what holds for the items of two lists holds for those of both together
pub all_both : {A : Type 0} (P : A → Type 0) (xs ys : List A) → AllByRecursion P xs → AllByRecursion P ys → AllByRecursion P (xs ++ ys)
all_both P [] ys first second = second
all_both P (x ∷ xs) ys first second = (first.0, all_both P xs ys first.1 second)

-- and each of the two parts
pub all_before : {A : Type 0} (P : A → Type 0) (xs ys : List A) → AllByRecursion P (xs ++ ys) → AllByRecursion P xs
all_before P [] ys all = tt
all_before P (x ∷ xs) ys all = (all.0, all_before P xs ys all.1)

pub all_after : {A : Type 0} (P : A → Type 0) (xs ys : List A) → AllByRecursion P (xs ++ ys) → AllByRecursion P ys
all_after P [] ys all = all
all_after P (x ∷ xs) ys all = all_after P xs ys all.1

-- and those from a place on
pub all_drop : {A : Type 0} (P : A → Type 0) (i : ℕ) (xs : List A) → AllByRecursion P xs → AllByRecursion P (drop i xs)
all_drop P zero xs all = all
all_drop P (suc i) [] all = tt
all_drop P (suc i) (x ∷ xs) all = all_drop P i xs all.1

-- the next item of a mapped list, and those after it
pub mapped_at : {A B : Type 0} (f : A → B) (xs : List A) (i : ℕ) (x : A) → i < length xs → x ≡ get_or xs i x → drop i (map f xs) ≡ f x ∷ drop (i + 1) (map f xs)
mapped_at f xs i x inside is =
    drop_more (map f xs) i (f x) (omega (arith, inside, length-map xs f))
    ∙ ap (λ (y : _). y ∷ drop (i + 1) (map f xs)) (get_or-map f xs i x (f x) inside ∙ ap f (sym is))

-- what implies another for each item implies it for all
pub all_weaker : {X : Type 0} (P Q : X → Type 0) (xs : List X) → ((x : X) → P x → Q x) → AllByRecursion P xs → AllByRecursion Q xs
all_weaker P Q [] more all = tt
all_weaker P Q (x ∷ xs) more all = (more x all.0, all_weaker P Q xs more all.1)

-- the numbers from a start, in two parts
pub range_append : (start n m : ℕ) → range_with_len start (n + m) ≡ range_with_len start n ++ range_with_len (start + n) m
range_append start zero m =
    let none : 0 + m ≡ m = omega arith in
    let here : start ≡ start + 0 = omega arith in
    ap (range_with_len start) none ∙ ap (λ (s : ℕ). range_with_len s m) here
range_append start (suc n) m =
    let more : suc n + m ≡ suc (n + m) = omega arith in
    let next : start + 1 + n ≡ start + suc n = omega arith in
    ap (range_with_len start) more
    ∙ ap (λ (l : List ℕ). start ∷ l) (range_append (start + 1) n m ∙ ap (λ (s : ℕ). range_with_len (start + 1) n ++ range_with_len s m) next)

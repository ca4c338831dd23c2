-- Laws of the bounds of a block.
use Rattle.std.proofs.Common.{◌≡◌, ℕ, zero, suc, ◌+◌, ◌-◌, ◌^◌, ◌<◌, ◌≤◌, true, List, [], ◌∷◌, ◌++◌, drop, fold, get_or, length, max, min, nat_le, Option, Some, None, refl, arith, ⊎_elim}
use Rattle.std.proofs.lemmas.List.{drop_more}
use Rattle.std.proofs.lemmas.Bool.{cases_lt, le-leb, ne_eqb}
use Rattle.std.specs.List.{list_all, AllByRecursion}
use Rattle.ii_codes.specs.Blocks.{IsBlock}
use Rattle.ii_fieldnorm.specs.Readers.{Norms}
use Rattle.ii_layout.specs.Bounds.{greatest, term_freq_bound}
use Rattle.ii_layout.specs.Frequencies.{bounds_counts}
use Rattle.ii_layout.specs.SkipReader.{max_tf_of_code, code_of_max_tf}

-- the greatest so far, and each that is looked at, is at most the greatest
pub from_max : (a : ℕ) (ns : List ℕ) → a ≤ fold max a ns
from_max a [] = omega arith
from_max a (n ∷ ns) = let more = from_max (max a n) ns in omega arith

pub at_most_max : (a : ℕ) (ns : List ℕ) (k : ℕ) → k < length ns → get_or ns k 0 ≤ fold max a ns
at_most_max a [] k within = absurd (omega arith)
at_most_max a (n ∷ ns) zero within = let more = from_max (max a n) ns in omega arith
at_most_max a (n ∷ ns) (suc k) within = at_most_max (max a n) ns k (omega arith)

-- it is at least the least
pub from_min : (a : ℕ) (ns : List ℕ) → fold min a ns ≤ a
from_min a [] = omega arith
from_min a (n ∷ ns) = let more = from_min (min a n) ns in omega arith

pub at_least_min : (a : ℕ) (ns : List ℕ) (k : ℕ) → k < length ns → fold min a ns ≤ get_or ns k 0
at_least_min a [] k within = absurd (omega arith)
at_least_min a (n ∷ ns) zero within = let more = from_min (min a n) ns in omega arith
at_least_min a (n ∷ ns) (suc k) within = at_least_min (min a n) ns k (omega arith)

-- where each is at most a limit, all are
all_at_most : (limit : ℕ) (ns : List ℕ) → ((k : ℕ) → k < length ns → get_or ns k 0 ≤ limit) → list_all (λ n. nat_le n limit) ns ≡ true
all_at_most limit [] each = refl
all_at_most limit (n ∷ ns) each = rw (le-leb n limit (each 0 (omega arith)), all_at_most limit ns (λ k within. each (suc k) (omega arith))) refl

-- a bound of a limit at least each count
limited : (limit : ℕ) (freqs : List ℕ) → ((k : ℕ) → k < length freqs → get_or freqs k 0 ≤ limit) → bounds_counts limit freqs ≡ true
limited zero freqs each = refl
limited (suc more) freqs each = rw (ne_eqb (suc more) 0 (λ e. absurd (omega arith))) (all_at_most (suc more) freqs each)

-- the term frequency that the written byte represents
kept : (n : ℕ) → n < 255 → max_tf_of_code (code_of_max_tf n) ≡ n
kept n below = let same : min n 255 ≡ n = omega arith in rw (same, ne_eqb n 255 (λ e. absurd (omega arith))) refl

cut : (n : ℕ) → 255 ≤ n → max_tf_of_code (code_of_max_tf n) ≡ 2 ^ 32 - 1
cut n above = let same : min n 255 ≡ 255 = omega arith in rw same refl

-- no term frequency exceeds what the greatest one's byte represents
pub below_code : (freqs : List ℕ) → IsBlock freqs → (k : ℕ) → k < length freqs → get_or freqs k 0 ≤ max_tf_of_code (code_of_max_tf (greatest freqs))
below_code freqs block k within =
    let here = at_most_max 0 freqs k within in
    let many = block.many in
    let fit = block.fit k (omega arith) in
    ⊎_elim
    (λ below. let same = kept (greatest freqs) below in omega arith)
    (λ above. let same = cut (greatest freqs) above in omega arith)
    (cases_lt (greatest freqs) 255)

-- So the bound that is written holds.
pub bound_holds : (norms : Option Norms) (freqs : List ℕ) → IsBlock freqs → bounds_counts (max_tf_of_code (term_freq_bound norms freqs)) freqs ≡ true
bound_holds None freqs block = refl
bound_holds (Some norms) freqs block = limited (max_tf_of_code (code_of_max_tf (greatest freqs))) freqs (below_code freqs block)

-- What holds of each element holds with one more.
pub all_push : {A : Type 0} (P : A → Type 0) (xs : List A) (x : A) → AllByRecursion P xs → P x → AllByRecursion P (xs ++ x ∷ [])
all_push P [] x all one = (one, tt)
all_push P (y ∷ ys) x all one = (all.0, all_push P ys x all.1 one)

-- and of the next one of those that are left
pub all_next : {A : Type 0} (P : A → Type 0) (xs : List A) (i : ℕ) (d : A) → i < length xs → AllByRecursion P (drop i xs) → P (get_or xs i d) × AllByRecursion P (drop (i + 1) xs)
all_next P xs i d within all = rw (drop_more xs i d within) at all

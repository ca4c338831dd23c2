-- Reading a range of a range of a file.
use Rattle.std.proofs.Common.{◌≡◌, ◌∙◌, ℕ, ◌+◌, ◌-◌, ◌≤◌, Bool, true, false, List, Option, None, Some, Result, drop, length, nat_le, take, refl, sym, ap, subst, arith}
use Rattle.std.specs.Prelude.{IfOk, if◌then◌else◌}
use Rattle.std.proofs.lemmas.List.{drop-drop, drop-take, take-take}
use Rattle.ii_file_slice.specs.FileSlice.{slice_if}

-- a range of a range
pub range_of_range : (start len from n : ℕ) (bs : List ℕ) → from + n ≤ len → take n (drop (start + from) bs) ≡ take n (drop from (take len (drop start bs)))
range_of_range start len from n bs fits =
    let whole : len ≡ from + (len - from) = omega arith in
    sym (
    ap (λ (k : ℕ). take n (drop from (take k (drop start bs)))) whole ∙ ap (take n) (drop-take from (len - from) (drop start bs)) ∙ take-take n (len - from) (drop from (drop start bs)) (omega arith)
    ∙ ap (take n) (drop-drop from start bs)
    )

-- what was read of a file, as read of a range of it
pub read_of_slice : {E : Type 0} (start len from n : ℕ) (file : Option (List ℕ)) (result : Result (List ℕ) E) → from + n ≤ len
    → ((bs : List ℕ) → file ≡ Some bs → IfOk result (λ read. read ≡ take n (drop (start + from) bs))) → (bs : List ℕ) → slice_if start len file ≡ Some bs → IfOk result (λ read. read ≡ take n (drop from bs))
read_of_slice start len from n None result fits exact bs is = absurd (cc)
read_of_slice start len from n (Some all) result fits exact bs is = by (nat_le (start + len) (length all)) is
  where
    by : (b : Bool) → (if b then Some (take len (drop start all)) else None) ≡ Some bs → IfOk result (λ read. read ≡ take n (drop from bs))
    by false is = absurd (cc)
    by true is =
        let same : take len (drop start all) ≡ bs = cc in
        subst (λ (xs : List ℕ). IfOk result (λ read. read ≡ take n (drop from xs))) same
        (subst (λ (xs : List ℕ). IfOk result (λ read. read ≡ xs)) (range_of_range start len from n all fits) (exact all refl))

-- The bytes before the postings of a field.
use Rattle.std.proofs.Common.{◌≡◌, ◌∙◌, ℕ, List, [], drop, length, take, sym, ap}
use Rattle.std.proofs.Math.Seq.{drop-length, take-length}

pub count_taken : (xs : List ℕ) → length xs ≡ 8 → take 8 xs ≡ xs
count_taken xs many = ap (λ (n : ℕ). take n xs) (sym many) ∙ take-length xs

pub none_after_count : (xs : List ℕ) → length xs ≡ 8 → drop 8 xs ≡ []
none_after_count xs many = ap (λ (n : ℕ). drop n xs) (sym many) ∙ drop-length xs

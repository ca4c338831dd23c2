-- How many calls of a writer failed.
use Rattle.std.proofs.Common.{◌≡◌, ℕ, ◌+◌, Option, Some, None, refl, arith}
use Rattle.std.proofs.lemmas.Bool.{ne_eqb}
use Rattle.ii_io.specs.WriteCalls.{Rises, failed_by_count}

pub Rises-trans : (a b c : Option ℕ) (m n : ℕ) → Rises a b m → Rises b c n → Rises a c (m + n)
Rises-trans None b c m n first second = tt
Rises-trans (Some a) None c m n first second = absurd first
Rises-trans (Some a) (Some b) None m n first second = second
Rises-trans (Some a) (Some b) (Some c) m n first second = omega (arith, first, second)

-- by another number that is the same
pub Rises-by : (a b : Option ℕ) (m n : ℕ) → m ≡ n → Rises a b m → Rises a b n
Rises-by None b m n same rises = tt
Rises-by (Some a) None m n same rises = rises
Rises-by (Some a) (Some b) m n same rises = omega (arith, same, rises)

-- a call that accepts bytes is no failed call
pub Rises-accepted : (a b c : Option ℕ) (n : ℕ) → (¬ (n ≡ 0)) → Rises a b 0 → Rises b c (failed_by_count n) → Rises a c 0
Rises-accepted a b c n some first second =
    let accepted : failed_by_count n ≡ 0 = rw (ne_eqb n 0 some) refl in
    Rises-trans a b c 0 0 first (Rises-by b c (failed_by_count n) 0 accepted second)

-- What children weigh with one more at the end.
use Rattle.std.proofs.Common.{ℕ, ◌≡◌, ◌<◌, ◌≤◌, ◌+◌, ◌*◌, ◌++◌, ◌∷◌, [], List, sum, length, arith}
use Rattle.std.proofs.lemmas.Grind.{common_steps}
use Rattle.ii_base.specs.JsonWeight.{children_weight}

pub sum-last : (ns : List ℕ) (n : ℕ) → sum (ns ++ n ∷ []) ≡ sum ns + n
sum-last ns n = grind (arith, common_steps)

pub sum-first : (n : ℕ) (ns : List ℕ) → sum (n ∷ ns) ≡ n + sum ns
sum-first n ns = grind (arith, common_steps)

-- A last child that isn't the first counts twice.
pub weighs_twice : (ns : List ℕ) (n : ℕ) → 0 < length ns → children_weight (ns ++ n ∷ []) ≡ children_weight ns + 2 * n
weighs_twice [] n not_empty = elim not_empty [ ]
weighs_twice (m ∷ ns) n not_empty = grind (arith, sum-last ns n)

-- Children weigh at least their sum.
pub weighs_sum : (ns : List ℕ) (n : ℕ) → sum ns + n ≤ children_weight (ns ++ n ∷ [])
weighs_sum [] n = omega arith
weighs_sum (m ∷ ns) n = omega (arith, sum-last ns n, sum-first m ns)

-- The first key of a dictionary.
use Rattle.std.proofs.Common.{◌≡◌, ℕ, List, [], ◌∷◌, ◌++◌}
use Rattle.std.specs.List.Sorted.{IsStrictlySortedBy}
use Rattle.ii_termdict.specs.ReadBack.{AreAscending}

one_ascends : (key : List ℕ) → AreAscending (key ∷ [])
unfolding IsStrictlySortedBy
one_ascends key = (tt, tt)

pub first_ascends : (keys : List (List ℕ)) (key : List ℕ) → keys ≡ [] → AreAscending (keys ++ key ∷ [])
first_ascends keys key e = rw e (one_ascends key)

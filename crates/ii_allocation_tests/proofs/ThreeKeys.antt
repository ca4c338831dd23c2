-- The keys a, ab and b ascend.
use Rattle.std.specs.Prelude.{[], ◌∷◌, refl}
use Rattle.ii_termdict.specs.ReadBack.{AreAscending}
use Rattle.ii_termdict.proofs.ReadBackLemmas.{none_ascend, ascending_more, last_key, no_last_key}

pub one_key : AreAscending ((97 ∷ []) ∷ [])
one_key = ascending_more [] (97 ∷ []) [] none_ascend (no_last_key []) refl

pub two_keys : AreAscending ((97 ∷ []) ∷ (97 ∷ 98 ∷ []) ∷ [])
two_keys = ascending_more ((97 ∷ []) ∷ []) (97 ∷ 98 ∷ []) (97 ∷ []) one_key (last_key [] (97 ∷ [])) refl

pub three_keys : AreAscending ((97 ∷ []) ∷ (97 ∷ 98 ∷ []) ∷ (98 ∷ []) ∷ [])
three_keys = ascending_more ((97 ∷ []) ∷ (97 ∷ 98 ∷ []) ∷ []) (98 ∷ []) (97 ∷ 98 ∷ []) two_keys (last_key ((97 ∷ []) ∷ []) (97 ∷ 98 ∷ [])) refl

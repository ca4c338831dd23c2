-- A document whose positions are all the same.
use Rattle.std.proofs.Common.{◌≡◌, ℕ, zero, suc, ◌<◌, ◌^◌, List, [], ◌∷◌, length, slice_index_or, arith}
use Rattle.std.specs.List.{All}
use Rattle.ii_base.specs.Entries.{Entry}
use Rattle.ii_docset.specs.Cursor.{FitsU32, IsInOrder, IsSound}

module _ (n x : ℕ) (ps : List ℕ) (few : n < 2 ^ 32) (same : (i d : ℕ) → i < length ps → slice_index_or ps i d ≡ x) (low : x < 2 ^ 32) where
  abbrev entry : Entry
  entry = record { doc = 0; term_freq = n; positions = ps }

  one : (P : Entry → Type 0) → P entry → All P (entry ∷ [])
  one P holds zero d within = holds
  one P holds (suc k) d within = absurd (omega (arith, within))

  pub same_sound : IsSound (entry ∷ [])
  same_sound = record {
    ascending = (omega arith, tt);
    fits = one FitsU32 (few, λ i d within. omega (arith, low, same i d within));
    in_order = one IsInOrder (λ i j d up within. omega (arith, same i d (omega (arith, up, within)), same j d within));
  }

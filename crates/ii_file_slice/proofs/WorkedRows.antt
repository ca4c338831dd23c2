-- Worked rows of the definitions.
use Rattle.std.proofs.Common.{◌≡◌, [], ◌∷◌, None, Some, refl}
use Rattle.ii_file_slice.specs.BlockCache.{IsBlockOf}
use Rattle.ii_file_slice.specs.FileSlice.{bytes_if, slice_if}

slice_row : slice_if 1 2 (Some (5 ∷ 6 ∷ 7 ∷ 8 ∷ [])) ≡ Some (6 ∷ 7 ∷ [])
slice_row = refl

short_row : slice_if 3 2 (Some (5 ∷ 6 ∷ 7 ∷ 8 ∷ [])) ≡ None
short_row = refl

-- a file with fewer bytes than its table says isn't known
known_row : bytes_if (record { len = 2; bytes = [] }) (Some (5 ∷ 6 ∷ [])) ≡ Some (5 ∷ 6 ∷ [])
known_row = refl

other_length_row : bytes_if (record { len = 3; bytes = [] }) (Some (5 ∷ 6 ∷ [])) ≡ None
other_length_row = refl

-- a block that begins with the second byte
block_row : IsBlockOf (5 ∷ 6 ∷ 7 ∷ 8 ∷ []) (record { start = 1; bytes = 6 ∷ 7 ∷ [] })
block_row = refl

-- the bytes of a block that begins elsewhere
other_block_row : IsBlockOf (5 ∷ 6 ∷ 7 ∷ 8 ∷ []) (record { start = 2; bytes = 6 ∷ 7 ∷ [] }) → ⊥
other_block_row is = cc

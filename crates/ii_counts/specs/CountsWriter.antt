-- The numbers of tokens while they are collected, and the file that holds them.
use Rattle.std.specs.Prelude.{◌≡◌, ℕ, ◌+◌, ◌≤◌, ◌^◌, ◌⊎◌, List, [], ◌∷◌, get_or, length, map, slice_get, Some, IfSome, Bool, ◌==◌}
use Rattle.std.specs.List.{range_with_len}
use Rattle.std.specs.Option.{option_map}
use Rattle.ii_io.specs.Composite.{Body, body_of, composite, written_composite}
use Rattle.ii_fieldnorm.specs.Buffers.{Buffers}
use Rattle.ii_io.specs.declared.faults.Fault.{Fault}
use Rattle.ii_io.specs.declared.faults.Fault.TheVariants.{Limit, OutOfMemory}
use Rattle.ii_io.specs.declared.faults.LimitName.TheVariants as limit
use Rattle.ii_counts.specs.Counts.{counts_at, written_counts}

-- the number of a document in a field: fields have rows of numbers, and a missing number is 0
abbrev pub count_at : List (List ℕ) → ℕ → ℕ → ℕ
count_at rows field doc = get_or (get_or rows field []) doc 0

-- The number of a document in a field was set, and no other one was changed.
pub record SetsCount (old new : List (List ℕ)) (field doc count : ℕ) : Type 0 where
  pub fields : length new ≡ length old
  pub here : count_at new field doc ≡ count
  pub others : (f d : ℕ) → (f ≡ field → d ≡ doc → ⊥) → count_at new f d ≡ count_at old f d

-- the numbers of the first documents
abbrev pub first_counts : ℕ → List ℕ → List ℕ
first_counts num_docs row = map (λ (doc : ℕ). get_or row doc 0) (range_with_len 0 num_docs)

-- the bodies of rows of consecutive fields, given the first
abbrev pub count_bodies_from : ℕ → List (List ℕ) → List Body
count_bodies_from field [] = []
count_bodies_from field (row ∷ rows) = record { field = field; bytes = written_counts row } ∷ count_bodies_from (field + 1) rows

-- the bodies of the rows of all fields
abbrev pub count_bodies : List (List ℕ) → List Body
count_bodies rows = count_bodies_from 0 rows

-- rows as the buffers that a writer of bodies has
abbrev pub row_buffers : List (List ℕ) → Buffers
row_buffers rows = map (λ (row : List ℕ). Some (written_counts row)) rows

-- A written row is read back.
abbrev pub IsReadBack : List ℕ → Type 0
IsReadBack row = counts_at (length row) (written_counts row) ≡ Some row

-- A file holds the row of each field, and is read back as these.
pub record HoldRows (rows : List (List ℕ)) (bytes : List ℕ) : Type 0 where
  pub written : bytes ≡ written_composite (count_bodies rows)
  pub opened : composite bytes ≡ Some (count_bodies rows)
  pub exact : (field : ℕ) → body_of field (count_bodies rows) ≡ option_map written_counts (slice_get rows field)
  pub read : (field : ℕ) → IfSome (slice_get rows field) IsReadBack

-- Why rows can't be written to memory: an allocation failed, or the file would be too long.
abbrev pub IsRowsFault : List (List ℕ) → Fault → Type 0
IsRowsFault rows fault = (fault ≡ OutOfMemory) ⊎ ((fault ≡ Limit limit.Offset) × (2 ^ 64 ≤ length (written_composite (count_bodies rows))))

-- whether a number is the greatest of 32 bits, or more
abbrev pub is_limit : ℕ → Bool
is_limit count = count == 4294967295

-- The format of a composite file: the bodies, a place of 20 bytes for each, and the number of bodies.
use Rattle.std.specs.Prelude.{◌≡◌, ℕ, zero, suc, ◌+◌, ◌-◌, ◌*◌, ◌^◌, ◌<◌, Bool, true, ◌&&◌, not, List, [], ◌∷◌, ◌++◌, map, drop, length, nat_le, ◌==◌, Option, Some, IsSomeAnd, ◌≤◌}
use Rattle.std.specs.List.{list_all, list_any, find, flat_map, slice_range}
use Rattle.std.specs.Option.{option_map}
use Rattle.ii_io.specs.declared.composite_file.place.Place.{Place}
use Rattle.ii_io.specs.Steps.{◌>>=◌, needs}
use Rattle.ii_io.specs.Numbers.{number_at, le_bytes}

-- the body of a field
pub record Body : Type 0 where
  pub field : ℕ
  pub bytes : List ℕ

-- the encoding of a place in the table
unfoldable pub place_bytes : Place → List ℕ
place_bytes p = le_bytes 4 p.field ++ le_bytes 8 p.start ++ le_bytes 8 p.end

-- the place at the start of the bytes, and the bytes after it
unfoldable pub place_at : List ℕ → Option (Place × List ℕ)
place_at bytes = do
  field ← number_at 4 bytes
  start ← number_at 8 field.1
  end ← number_at 8 start.1
  Some (record { field = field.0; start = start.0; end = end.0 }, end.1)

-- a given number of places in sequence
abbrev pub places_at : ℕ → List ℕ → Option (List Place)
places_at zero bytes = Some []
places_at (suc n) bytes = do
  first ← place_at bytes
  others ← places_at n first.1
  Some (first.0 ∷ others)

-- whether a field has a place
abbrev pub has_place : ℕ → List Place → Bool
has_place field places = list_any (λ (p : Place). p.field == field) places

-- no field has two places
abbrev pub are_distinct : List Place → Bool
are_distinct [] = true
are_distinct (p ∷ ps) = not (has_place p.field ps) && are_distinct ps

-- whether a place is valid and ends within the given size
abbrev pub lies_within : ℕ → Place → Bool
lies_within size p = nat_le p.start p.end && nat_le p.end size

-- the size of a table with the given number of places, including that number
abbrev pub table_size : ℕ → ℕ
table_size count = 20 * count + 4

-- the places of a table after bodies of the given size, if all are in range and of distinct fields
abbrev pub valid_places : ℕ → ℕ → List ℕ → Option (List Place)
valid_places size count table = do
  places ← places_at count table
  _ ← needs (list_all (lies_within size) places && are_distinct places)
  Some places

-- the table at the end of a file, if it fits and is valid
abbrev pub table_of : List ℕ → Option (List Place)
table_of bytes = do
  count ← number_at 4 (drop (length bytes - 4) bytes)
  _ ← needs (nat_le (table_size count.0) (length bytes))
  valid_places (length bytes - table_size count.0) count.0 (drop (length bytes - table_size count.0) bytes)

-- The table fits in the file; the last four bytes give its number of places.
abbrev pub HasTable : List ℕ → Type 0
HasTable bytes = IsSomeAnd (number_at 4 (drop (length bytes - 4) bytes)) (λ count. table_size count.0 ≤ length bytes)

-- the body at a place
abbrev pub body_at : List ℕ → Place → Body
body_at bytes p = record { field = p.field; bytes = slice_range bytes p.start p.end }

-- the bodies of a file
abbrev pub composite : List ℕ → Option (List Body)
composite bytes = option_map (map (body_at bytes)) (table_of bytes)

-- the body of a field, if the file has one
abbrev pub body_of : ℕ → List Body → Option (List ℕ)
body_of field bodies = option_map (λ (b : Body). b.bytes) (find (λ (b : Body). b.field == field) bodies)

-- the places of consecutive bodies from an offset on
abbrev pub places_from : ℕ → List Body → List Place
places_from start [] = []
places_from start (b ∷ bs) = record { field = b.field; start = start; end = start + length b.bytes } ∷ places_from (start + length b.bytes) bs

-- the bytes of the bodies in sequence
abbrev pub bodies_bytes : List Body → List ℕ
bodies_bytes bodies = flat_map (λ (b : Body). b.bytes) bodies

-- the bytes of the places and their number
abbrev pub table_bytes : List Place → List ℕ
table_bytes places = flat_map place_bytes places ++ le_bytes 4 (length places)

-- the file written for these bodies
abbrev pub written_composite : List Body → List ℕ
written_composite bodies = bodies_bytes bodies ++ table_bytes (places_from 0 bodies)

-- whether all field ids have 32 bits
abbrev pub fit_fields : List Body → Bool
fit_fields bodies = list_all (λ (b : Body). nat_le (b.field + 1) (2 ^ 32)) bodies

-- Bodies that a file can hold: distinct 32-bit fields, and sizes that fit their numbers.
pub record AreBodies (bodies : List Body) : Type 0 where
  pub distinct : are_distinct (places_from 0 bodies) ≡ true
  pub fields : fit_fields bodies ≡ true
  pub few : length bodies < 2 ^ 32
  pub small : length (bodies_bytes bodies) < 2 ^ 64

-- A written file is read back.
abbrev pub ReadsWrittenComposites : Type 0
ReadsWrittenComposites = (bodies : List Body) → AreBodies bodies → composite (written_composite bodies) ≡ Some bodies

-- The places of the bodies of a composite file that is read by ranges.
use Rattle.std.specs.Prelude.{◌≡◌, ℕ, List, Option, Some}
use Rattle.ii_io.specs.Composite.{table_of}
use Rattle.ii_io.specs.declared.composite_file.place.Place.{Place}

-- a file, and the places of its bodies
pub record CompositeSlicesState (H : Type 0) : Type 0 where
  pub file : H
  pub places : List Place

-- Places are those of a file's table, where the file's bytes are known.
abbrev pub AreItsPlaces : Option (List ℕ) → List Place → Type 0
AreItsPlaces known places = (bytes : List ℕ) → known ≡ Some bytes → table_of bytes ≡ Some places

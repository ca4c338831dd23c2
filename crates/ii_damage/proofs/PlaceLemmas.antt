-- Places of the bodies of a field.
use Rattle.std.proofs.Common.{◌≡◌, ◌==◌, ◌∙◌, ℕ, true, List, Option, None, Some, refl, sym, ap}
use Rattle.std.specs.List.{find}
use Rattle.std.specs.Prelude.{is_some}
use Rattle.ii_io.specs.declared.composite_file.place.Place.{Place}
use Rattle.ii_io.specs.Composite.{table_of}
use Rattle.ii_damage.specs.Damages.{bytes_at, bytes_of_field, place_for}

-- the place that was found in a valid table is that of the field
pub found_place : (field : ℕ) (file seen : List ℕ) (found result : Option Place) → seen ≡ file → result ≡ found → is_some (table_of file) ≡ true
    → ((places : List Place) → table_of seen ≡ Some places → result ≡ find (λ (p : Place). p.field == field) places) → bytes_at file found ≡ bytes_of_field field file
found_place field file seen found result same is whole finds = by_table (table_of file) refl whole
  where
    by_table : (o : Option (List Place)) → table_of file ≡ o → is_some o ≡ true → bytes_at file found ≡ bytes_of_field field file
    by_table None at there = absurd (cc)
    by_table (Some places) at there = ap (bytes_at file) (sym is ∙ finds places (ap table_of same ∙ at) ∙ ap (place_for field) (sym at))

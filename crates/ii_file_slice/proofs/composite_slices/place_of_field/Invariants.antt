use Rattle.std.proofs.Common.{◌≡◌, ◌==◌, drop}
use Rattle.std.specs.List.{find}
use Rattle.ii_io.specs.declared.composite_file.place.Place.{Place}
use Rattle.ii_file_slice.proofs.composite_slices.place_of_field.Given as goal

abbrev pub invariant-loop-place : goal.invariant-loop-place
invariant-loop-place l =
    find (λ (p : Place). p.field == l.field) (drop l.place-index l.places) ≡ find (λ (p : Place). p.field == l.field) l.places

-- Laws of composite files.
use Rattle.std.proofs.Common.{◌≡◌, ℕ, ◌^◌, ◌<◌, List, ◌++◌, length, Some, refl, length-append, append_assoc}
use Rattle.ii_io.specs.declared.composite_file.place.Place.{Place}
use Rattle.ii_io.specs.Numbers.{le_bytes}
use Rattle.ii_io.specs.NumberLemmas.{reads_what_is_written, length_le_bytes}
use Rattle.ii_io.specs.Composite.{place_bytes, place_at}

pub reads_place_back : (p : Place) (rest : List ℕ) → p.field < 256 ^ 4 → p.start < 256 ^ 8 → p.end < 256 ^ 8 → place_at (place_bytes p ++ rest) ≡ Some (p, rest)
unfolding place_at place_bytes
reads_place_back p rest field start end =
    let front : (le_bytes 4 p.field ++ le_bytes 8 p.start ++ le_bytes 8 p.end) ++ rest ≡ le_bytes 4 p.field ++ (le_bytes 8 p.start ++ (le_bytes 8 p.end ++ rest)) = simp append_assoc in
    let first = reads_what_is_written 4 p.field (le_bytes 8 p.start ++ (le_bytes 8 p.end ++ rest)) field in
    let second = reads_what_is_written 8 p.start (le_bytes 8 p.end ++ rest) start in
    let third = reads_what_is_written 8 p.end rest end in
    rw (front, first, second, third) refl

pub length_place_bytes : (p : Place) → length (place_bytes p) ≡ 20
unfolding place_bytes
length_place_bytes p =
    simp (length-append, length_le_bytes)

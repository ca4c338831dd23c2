-- A written composite file is read back.
use Rattle.std.proofs.Common.{◌≡◌, ℕ, suc, ◌+◌, ◌-◌, ◌^◌, ◌<◌, ◌≤◌, true, nat_le, List, [], ◌∷◌, ◌++◌, map, length, drop, Some, refl, sym, ap, ◌∙◌, arith, length-append, append_assoc}
use Rattle.std.specs.List.{list_all, flat_map, slice_range}
use Rattle.std.proofs.lemmas.Bool.{le-leb, leb-true, and_parts}
use Rattle.std.proofs.lemmas.List.{take_at, drop_at, append-nil}
use Rattle.ii_io.specs.declared.composite_file.place.Place.{Place}
use Rattle.ii_io.specs.Numbers.{number_at, le_bytes}
use Rattle.ii_io.specs.NumberLemmas.{reads_what_is_written, length_le_bytes}
use Rattle.ii_io.specs.Composite.{Body, place_bytes, places_at, lies_within, table_size, body_at, places_from, bodies_bytes, fit_fields, ReadsWrittenComposites}
use Rattle.ii_io.specs.CompositeLemmas.{reads_place_back}
use Rattle.ii_io.proofs.CompositeWriteLemmas.{length-places_bytes}

pub length-places_from : (start : ℕ) (bodies : List Body) → length (places_from start bodies) ≡ length bodies
length-places_from start [] = refl
length-places_from start (b ∷ bs) = ap suc (length-places_from (start + length b.bytes) bs)

-- the places are read back
places_read : (start : ℕ) (bodies : List Body) (rest : List ℕ) → fit_fields bodies ≡ true → start + length (bodies_bytes bodies) < 2 ^ 64
    → places_at (length bodies) (flat_map place_bytes (places_from start bodies) ++ rest) ≡ Some (places_from start bodies)
places_read start [] rest fields small = refl
places_read start (b ∷ bs) rest fields small =
    let place : Place = record { field = b.field; start = start; end = start + length b.bytes } in
    let others = flat_map place_bytes (places_from (start + length b.bytes) bs) in
    let both = and_parts (nat_le (b.field + 1) (2 ^ 32)) (fit_fields bs) fields in
    let field = leb-true (b.field + 1) (2 ^ 32) both.0 in
    let size = length-append b.bytes (bodies_bytes bs) in
    let first = reads_place_back place (others ++ rest) (omega arith) (omega arith) (omega arith) in
    let later = places_read (start + length b.bytes) bs rest both.1 (omega arith) in
    let front : (place_bytes place ++ others) ++ rest ≡ place_bytes place ++ (others ++ rest) = append_assoc (place_bytes place) others rest in
    rw (front, first, later) refl

-- they lie within the bodies
places_lie : (start size : ℕ) (bodies : List Body) → start + length (bodies_bytes bodies) ≤ size → list_all (lies_within size) (places_from start bodies) ≡ true
places_lie start size [] h = refl
places_lie start size (b ∷ bs) h =
    let sum = length-append b.bytes (bodies_bytes bs) in
    let order = le-leb start (start + length b.bytes) (omega arith) in
    let within = le-leb (start + length b.bytes) size (omega arith) in
    rw (order, within, places_lie (start + length b.bytes) size bs (omega arith)) refl

-- each body is at its place
bodies_stand : (front : List ℕ) (bodies : List Body) (rest whole : List ℕ) (start : ℕ) → start ≡ length front → whole ≡ front ++ (bodies_bytes bodies ++ rest) → map (body_at whole) (places_from start bodies) ≡ bodies
bodies_stand front [] rest whole start h e = refl
bodies_stand front (b ∷ bs) rest whole start h e =
    let later = bodies_bytes bs ++ rest in
    let same : whole ≡ front ++ (b.bytes ++ later) = e ∙ ap (λ (xs : List ℕ). front ++ xs) (append_assoc b.bytes (bodies_bytes bs) rest) in
    let after : drop start whole ≡ b.bytes ++ later = rw same (drop_at front (b.bytes ++ later) start (sym h)) in
    let count : start + length b.bytes - start ≡ length b.bytes = omega arith in
    let body : slice_range whole start (start + length b.bytes) ≡ b.bytes = rw (after, count) (take_at b.bytes later (length b.bytes) refl) in
    let moved : whole ≡ (front ++ b.bytes) ++ later = same ∙ sym (append_assoc front b.bytes later) in
    let others = bodies_stand (front ++ b.bytes) bs rest whole (start + length b.bytes) (omega (arith, length-append front b.bytes)) moved in
    rw (body, others) refl

pub reads_written_composites : ReadsWrittenComposites
reads_written_composites bodies h =
    let places = places_from 0 bodies in
    let content = bodies_bytes bodies in
    let table = flat_map place_bytes places in
    let count = length-places_from 0 bodies in
    let n = length bodies in
    let last = le_bytes 4 (length places) in
    let file = content ++ (table ++ last) in
    let table_length = length-places_bytes places in
    let last_length = length_le_bytes 4 (length places) in
    let tail_length = length-append table last in
    let file_length = length-append content (table ++ last) in
    let few = h.few in
    let small = h.small in
    let split : file ≡ (content ++ table) ++ last = sym (append_assoc content table last) in
    let front_length : length (content ++ table) ≡ length file - 4 = omega (arith, length-append content table) in
    let footer : drop (length file - 4) file ≡ last = ap (λ (xs : List ℕ). drop (length file - 4) xs) split ∙ drop_at (content ++ table) last (length file - 4) front_length in
    let number : number_at 4 last ≡ Some (length places, []) = ap (number_at 4) (sym (append-nil last)) ∙ reads_what_is_written 4 (length places) [] (omega arith) in
    let enough = le-leb (table_size (length places)) (length file) (omega arith) in
    let size : length file - table_size (length places) ≡ length content = omega arith in
    let after : drop (length content) file ≡ table ++ last = drop_at content (table ++ last) (length content) refl in
    let read : places_at (length places) (table ++ last) ≡ Some places = ap (λ (k : ℕ). places_at k (table ++ last)) count ∙ places_read 0 bodies last h.fields (omega arith) in
    let lie = places_lie 0 (length content) bodies (omega arith) in
    let stand = bodies_stand [] bodies (table ++ last) file 0 refl refl in
    rw (footer, number, enough, size, after, read, lie, h.distinct, stand) refl

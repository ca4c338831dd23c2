-- The table and the bodies of a composite file that is read by ranges.
use Rattle.std.proofs.Common.{◌≡◌, ◌∙◌, ℕ, ◌+◌, ◌-◌, ◌*◌, ◌≤◌, ◌==◌, List, None, Some, drop, length, map, take, refl, sym, ap, arith}
use Rattle.std.specs.List.{find}
use Rattle.std.specs.Option.{option_map}
use Rattle.std.proofs.lemmas.Bool.{le-leb}
use Rattle.std.proofs.lemmas.List.{take_rest}
use Rattle.ii_io.specs.declared.composite_file.place.Place.{Place}
use Rattle.ii_io.specs.Composite.{Body, body_at, body_of, composite, table_of, valid_places}
use Rattle.ii_io.specs.Numbers.{number_at}
use Rattle.ii_io.proofs.CompositeReadLemmas.{body_found, body_missing, found_order, table_lies}
use Rattle.ii_file_slice.specs.FileSlice.{slice_if}

-- the bytes from a place on
pub end_of_file : (bs read : List ℕ) (len start n : ℕ) → len ≡ length bs → n ≡ len - start → read ≡ take n (drop start bs) → read ≡ drop start bs
end_of_file bs read len start n len_is n_is is = is ∙ ap (λ (k : ℕ). take k (drop start bs)) (n_is ∙ ap (λ (l : ℕ). l - start) len_is) ∙ take_rest bs start

-- the last four bytes
pub footer_is : (bs footer : List ℕ) (len start n : ℕ) → len ≡ length bs → start ≡ len - 4 → n ≡ len - start → footer ≡ take n (drop start bs) → footer ≡ drop (length bs - 4) bs
footer_is bs footer len start n len_is start_is n_is is =
    end_of_file bs footer len start n len_is n_is is ∙ ap (λ (s : ℕ). drop s bs) (start_is ∙ ap (λ (l : ℕ). l - 4) len_is)

-- the table after the bodies, given the last four bytes
pub table_is : (bs footer rest table : List ℕ) (len count size : ℕ) → len ≡ length bs → footer ≡ drop (length bs - 4) bs → Some (count, rest) ≡ number_at 4 footer → size ≡ 20 * count + 4 → size ≤ len → table ≡ take size (drop (len - size) bs)
    → table_of bs ≡ valid_places (len - size) count table
table_is bs footer rest table len count size len_is footer_is counted size_is fits is =
    let number : number_at 4 (drop (length bs - 4) bs) ≡ Some (count, rest) = ap (number_at 4) (sym footer_is) ∙ sym counted in
    let enough : 20 * count + 4 ≤ length bs = omega (arith, len_is, size_is, fits) in
    let start : len - size ≡ length bs - (20 * count + 4) = omega (arith, len_is, size_is) in
    let n : size ≡ len - (len - size) = omega (arith, fits) in
    let all : table ≡ drop (length bs - (20 * count + 4)) bs = end_of_file bs table len (len - size) size len_is n is ∙ ap (λ (s : ℕ). drop s bs) start in
    rw (number, le-leb (20 * count + 4) (length bs) enough, start, all) refl

-- the bodies of a file with these places
bodies_are : (bs : List ℕ) (places : List Place) (bodies : List Body) → table_of bs ≡ Some places → composite bs ≡ Some bodies → bodies ≡ map (body_at bs) places
bodies_are bs places bodies table is =
    let both : Some (map (body_at bs) places) ≡ Some bodies = ap (option_map (map (body_at bs))) (sym table) ∙ is in
    cc

-- a field without a place has no body
pub no_body : (field : ℕ) (bs : List ℕ) (places : List Place) (bodies : List Body) → table_of bs ≡ Some places → composite bs ≡ Some bodies → None ≡ find (λ (p : Place). p.field == field) places → body_of field bodies ≡ None
no_body field bs places bodies table is none = ap (body_of field) (bodies_are bs places bodies table is) ∙ body_missing field bs places none

-- the body at the place of a field
pub body_there : (field start len : ℕ) (bs : List ℕ) (p : Place) (places : List Place) (bodies : List Body) → table_of bs ≡ Some places → composite bs ≡ Some bodies → Some p ≡ find (λ (q : Place). q.field == field) places → start ≡ p.start → len ≡ p.end - p.start
    → Some (slice_if start len (Some bs)) ≡ option_map (λ (body : List ℕ). Some body) (body_of field bodies)
body_there field start len bs p places bodies table is found start_is len_is =
    let order = found_order field (length bs) p places (table_lies bs places table) found in
    let ordered : p.start ≤ p.end = order.0 in
    let within : p.end ≤ length bs = order.1 in
    let fits : p.start + (p.end - p.start) ≤ length bs = omega (arith, ordered, within) in
    let body = ap (body_of field) (bodies_are bs places bodies table is) ∙ body_found field bs p places found in
    rw (start_is, len_is, le-leb (p.start + (p.end - p.start)) (length bs) fits, body) refl

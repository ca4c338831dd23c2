-- The place of a field in the table at the end of a file.
use Rattle.std.proofs.Common.{◌≡◌, ◌==◌, ℕ, zero, suc, ◌-◌, ◌+◌, ◌*◌, ◌<◌, ◌≤◌, Bool, true, false, ◌&&◌, nat_le, List, ◌∷◌, length, drop, Option, None, Some, refl, sym, arith}
use Rattle.std.specs.List.{find, list_all}
use Rattle.std.specs.Option.{option_map}
use Rattle.std.proofs.lemmas.Bool.{leb-true}
use Rattle.ii_io.specs.declared.composite_file.place.Place.{Place}
use Rattle.ii_io.specs.Steps.{◌>>=◌, needs}
use Rattle.ii_io.specs.Numbers.{number_at}
use Rattle.ii_io.specs.Composite.{are_distinct, lies_within, place_at, places_at, table_of, table_size, valid_places}

-- the first place of a field
abbrev pub place_for : ℕ → List Place → Option Place
place_for field places = find (λ (p : Place). p.field == field) places

-- Of the places that are left in a table, the first one of a field is that of all.
abbrev pub IsSeeking : ℕ → ℕ → List ℕ → ℕ → List ℕ → Type 0
IsSeeking field count table i rest = (places : List Place) → places_at count table ≡ Some places → option_map (place_for field) (places_at (count - i) rest) ≡ Some (place_for field places)

pub seeking_first : (field count : ℕ) (table : List ℕ) → IsSeeking field count table 0 table
seeking_first field count table = λ places is. let e : count - 0 ≡ count = omega arith in rw (e, is) refl

short_among : (field n : ℕ) (bytes : List ℕ) (places : List Place) → 0 < n → place_at bytes ≡ None → option_map (place_for field) (places_at n bytes) ≡ Some (place_for field places) → None ≡ place_for field places
short_among field zero bytes places some none e = absurd (omega arith)
short_among field (suc n) bytes places some none e = absurd (let f : None ≡ Some (place_for field places) = rw none at e in cc)

-- no place is missing
pub seeking_short : (field count i : ℕ) (table rest : List ℕ) → i < count → None ≡ place_at rest → IsSeeking field count table i rest → (places : List Place) → places_at count table ≡ Some places → None ≡ place_for field places
seeking_short field count i table rest inside none seeking = λ places is. short_among field (count - i) rest places (omega arith) (sym none) (seeking places is)

here_among : (field : ℕ) (p : Place) (others : Option (List Place)) (places : List Place) → (p.field == field) ≡ true
    → option_map (place_for field) (others >>= λ (ps : List Place). Some (p ∷ ps)) ≡ Some (place_for field places) → Some p ≡ place_for field places
here_among field p None places here e = absurd (cc)
here_among field p (Some ps) places here e = let f : Some (Some p) ≡ Some (place_for field places) = rw here at e in cc

here_at : (field n m : ℕ) (rest bytes : List ℕ) (p : Place) (places : List Place) → n ≡ suc m → place_at rest ≡ Some (p, bytes) → (p.field == field) ≡ true → option_map (place_for field) (places_at n rest) ≡ Some (place_for field places) → Some p ≡ place_for field places
here_at field n m rest bytes p places more is here e =
    here_among field p (places_at m bytes) places here (let f : option_map (place_for field) (places_at (suc m) rest) ≡ Some (place_for field places) = rw more at e in rw is at f)

-- the place that comes is that of the field
pub seeking_here : (field count i : ℕ) (table rest bytes : List ℕ) (p : Place) → i < count → Some (p, bytes) ≡ place_at rest → (p.field == field) ≡ true → IsSeeking field count table i rest
    → (places : List Place) → places_at count table ≡ Some places → Some p ≡ place_for field places
seeking_here field count i table rest bytes p inside is here seeking = λ places all. here_at field (count - i) (count - (i + 1)) rest bytes p places (omega arith) (sym is) here (seeking places all)

on_among : (field : ℕ) (p : Place) (others : Option (List Place)) (places : List Place) → (p.field == field) ≡ false
    → option_map (place_for field) (others >>= λ (ps : List Place). Some (p ∷ ps)) ≡ Some (place_for field places) → option_map (place_for field) others ≡ Some (place_for field places)
on_among field p None places other e = e
on_among field p (Some ps) places other e = rw other at e

on_at : (field n m : ℕ) (rest bytes : List ℕ) (p : Place) (places : List Place) → n ≡ suc m → place_at rest ≡ Some (p, bytes) → (p.field == field) ≡ false → option_map (place_for field) (places_at n rest) ≡ Some (place_for field places)
    → option_map (place_for field) (places_at m bytes) ≡ Some (place_for field places)
on_at field n m rest bytes p places more is other e =
    on_among field p (places_at m bytes) places other (let f : option_map (place_for field) (places_at (suc m) rest) ≡ Some (place_for field places) = rw more at e in rw is at f)

-- it is that of another field
pub seeking_on : (field count i : ℕ) (table rest bytes : List ℕ) (p : Place) → i < count → Some (p, bytes) ≡ place_at rest → (p.field == field) ≡ false → IsSeeking field count table i rest → IsSeeking field count table (i + 1) bytes
seeking_on field count i table rest bytes p inside is other seeking = λ places all. on_at field (count - i) (count - (i + 1)) rest bytes p places (omega arith) (sym is) other (seeking places all)

some_same : (a b : Option Place) → Some a ≡ Some b → a ≡ b
some_same a b e = cc

ended_among : (field n : ℕ) (bytes : List ℕ) (places : List Place) → n ≡ 0 → option_map (place_for field) (places_at n bytes) ≡ Some (place_for field places) → None ≡ place_for field places
ended_among field zero bytes places none e = some_same None (place_for field places) e
ended_among field (suc n) bytes places none e = absurd (omega arith)

-- none is left
pub seeking_ended : (field count i : ℕ) (table rest : List ℕ) → count ≤ i → IsSeeking field count table i rest → (places : List Place) → places_at count table ≡ Some places → None ≡ place_for field places
seeking_ended field count i table rest end seeking = λ places is. ended_among field (count - i) rest places (omega arith) (seeking places is)

-- a table that is whole has its places
needed : (t : Bool) (found : Option (List Place)) (places : List Place) → (found >>= λ (ps : List Place). needs t >>= λ _. Some ps) ≡ Some places → found ≡ Some places
needed true None places e = absurd (cc)
needed true (Some ps) places e = e
needed false None places e = absurd (cc)
needed false (Some ps) places e = absurd (cc)

valid_among : (size : ℕ) (found : Option (List Place)) (places : List Place)
    → (found >>= λ (ps : List Place). needs (list_all (lies_within size) ps && are_distinct ps) >>= λ _. Some ps) ≡ Some places → found ≡ Some places
valid_among size None places e = absurd (cc)
valid_among size (Some ps) places e = needed (list_all (lies_within size) ps && are_distinct ps) (Some ps) places e

fits_among : (t : Bool) (found : Option (List Place)) (places : List Place) → (needs t >>= λ _. found) ≡ Some places → (t ≡ true) × (found ≡ Some places)
fits_among true found places e = (refl, e)
fits_among false found places e = absurd (cc)

table_fits : (file : List ℕ) (count : ℕ) (rest : List ℕ) (places : List Place) → number_at 4 (drop (length file - 4) file) ≡ Some (count, rest) → table_of file ≡ Some places
    → (table_size count ≤ length file) × (places_at count (drop (length file - table_size count) file) ≡ Some places)
table_fits file count rest places is found =
    let parts = fits_among (nat_le (table_size count) (length file)) (valid_places (length file - table_size count) count (drop (length file - table_size count) file)) places (rw is at found) in
    (leb-true (table_size count) (length file) parts.0, valid_among (length file - table_size count) (places_at count (drop (length file - table_size count) file)) places parts.1)

-- what is answered of a table, for each that is one
abbrev pub Answers : ℕ → List ℕ → Option Place → Type 0
Answers field file answer = (places : List Place) → table_of file ≡ Some places → answer ≡ place_for field places

pub no_table : (field : ℕ) (file : List ℕ) → None ≡ number_at 4 (drop (length file - 4) file) → Answers field file None
no_table field file none = λ places found. absurd (let e : None ≡ Some places = rw (sym none) at found in cc)

pub table_short : (field count : ℕ) (file rest : List ℕ) → Some (count, rest) ≡ number_at 4 (drop (length file - 4) file) → length file < 20 * count + 4 → Answers field file None
table_short field count file rest is short = λ places found. absurd (let fits = (table_fits file count rest places (sym is) found).0 in omega arith)

pub table_places : (field count : ℕ) (file rest table : List ℕ) (answer : Option Place) → Some (count, rest) ≡ number_at 4 (drop (length file - 4) file) → table ≡ drop (length file - (20 * count + 4)) file
    → ((places : List Place) → places_at count table ≡ Some places → answer ≡ place_for field places) → Answers field file answer
table_places field count file rest table answer is table_is answers = λ places found. answers places (rw table_is (table_fits file count rest places (sym is) found).1)

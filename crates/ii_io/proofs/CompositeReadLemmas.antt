-- Laws of reading a composite file place by place.
use Rattle.std.proofs.Common.{◌≡◌, ℕ, zero, suc, ◌-◌, ◌<◌, ◌≤◌, Bool, true, false, ◌&&◌, ◌||◌, not, cond, nat_le, ◌==◌, List, [], ◌∷◌, ◌++◌, map, length, drop, Option, Some, None, refl, sym, ◌∙◌, arith, append_assoc, length-drop}
use Rattle.std.proofs.Math.Bool.{and-false, or-true}
use Rattle.std.proofs.lemmas.List.{length-take-le}
use Rattle.std.specs.List.{list_all, find, slice_range}
use Rattle.std.specs.Ordering.{is_eq, nat_cmp}
use Rattle.std.proofs.lemmas.List.Folds.{list_all-append, list_any-append}
use Rattle.std.proofs.lemmas.Bool.Decides.{nat_tests}
use Rattle.std.proofs.lemmas.Bool.{leb-true, le-leb, and_parts}
use Rattle.ii_io.specs.declared.composite_file.place.Place.{Place}
use Rattle.ii_io.specs.Steps.{◌>>=◌, needs}
use Rattle.ii_io.specs.Numbers.{number_at}
use Rattle.ii_io.specs.StepLemmas.{needs-some, step-some, some-same}
use Rattle.ii_io.specs.Composite.{place_at, places_at, has_place, are_distinct, lies_within, valid_places, table_of, table_size, body_at, body_of}

-- the result of the remaining table, after these places were read
abbrev pub left : ℕ → List Place → ℕ → List ℕ → Option (List Place)
left size read n bytes = do
  later ← places_at n bytes
  _ ← needs (list_all (lies_within size) (read ++ later) && are_distinct (read ++ later))
  Some (read ++ later)

pub left-short : (size : ℕ) (read : List Place) (n : ℕ) (bytes : List ℕ) → 0 < n → place_at bytes ≡ None → left size read n bytes ≡ None
left-short size read zero bytes some e = absurd (omega arith)
left-short size read (suc n) bytes some e = rw e refl

refused : (size : ℕ) (read : List Place) (p : Place) (o : Option (List Place))
    → ((later : List Place) → (list_all (lies_within size) (read ++ p ∷ later) && are_distinct (read ++ p ∷ later)) ≡ false)
    → ((o >>= λ others. Some (p ∷ others)) >>= λ later. needs (list_all (lies_within size) (read ++ later) && are_distinct (read ++ later)) >>= λ _. Some (read ++ later)) ≡ None
refused size read p None bad = refl
refused size read p (Some later) bad = rw (bad later) refl

outside : (size : ℕ) (read later : List Place) (p : Place) → lies_within size p ≡ false → list_all (lies_within size) (read ++ p ∷ later) ≡ false
outside size read later p e = rw (list_all-append (lies_within size) read (p ∷ later), e, and-false) refl

pub left-outside : (size : ℕ) (read : List Place) (n : ℕ) (bytes rest : List ℕ) (p : Place) → 0 < n → place_at bytes ≡ Some (p, rest) → lies_within size p ≡ false → left size read n bytes ≡ None
left-outside size read zero bytes rest p some e bad = absurd (omega arith)
left-outside size read (suc n) bytes rest p some e bad =
    rw e (refused size read p (places_at n rest) (λ later. rw (outside size read later p bad) refl))

has_place-among : (f : ℕ) (qs later : List Place) (p : Place) → (p.field == f) ≡ true → has_place f (qs ++ p ∷ later) ≡ true
has_place-among f qs later p e =
    rw (list_any-append (λ (q : Place). q.field == f) qs (p ∷ later), e, or-true) refl

eqb_true_sym : (a b : ℕ) → (a == b) ≡ true → (b == a) ≡ true
eqb_true_sym a b e = grind (arith, nat_tests)

repeated_cases : (f : ℕ) (q p : Place) (qs later : List Place) (t : Bool) → (q.field == p.field) ≡ t
    → (has_place p.field qs ≡ true → are_distinct (qs ++ p ∷ later) ≡ false)
    → (t || has_place p.field qs) ≡ true → are_distinct (q ∷ (qs ++ p ∷ later)) ≡ false
repeated_cases f q p qs later true e ih h =
    let among = has_place-among q.field qs later p (eqb_true_sym q.field p.field e) in
    rw among refl
repeated_cases f q p qs later false e ih h = rw (ih h, and-false) refl

repeated : (read later : List Place) (p : Place) → has_place p.field read ≡ true → are_distinct (read ++ p ∷ later) ≡ false
repeated [] later p e = absurd (cc)
repeated (q ∷ qs) later p e = repeated_cases 0 q p qs later (q.field == p.field) refl (λ h. repeated qs later p h) e

pub left-repeated : (size : ℕ) (read : List Place) (n : ℕ) (bytes rest : List ℕ) (p : Place) → 0 < n → place_at bytes ≡ Some (p, rest) → has_place p.field read ≡ true → left size read n bytes ≡ None
left-repeated size read zero bytes rest p some e bad = absurd (omega arith)
left-repeated size read (suc n) bytes rest p some e bad =
    rw e (refused size read p (places_at n rest) (λ later. rw (repeated read later p bad, and-false) refl))

more : (size : ℕ) (read : List Place) (p : Place) (o : Option (List Place))
    → ((o >>= λ others. Some (p ∷ others)) >>= λ later. needs (list_all (lies_within size) (read ++ later) && are_distinct (read ++ later)) >>= λ _. Some (read ++ later))
    ≡ (o >>= λ later. needs (list_all (lies_within size) ((read ++ p ∷ []) ++ later) && are_distinct ((read ++ p ∷ []) ++ later)) >>= λ _. Some ((read ++ p ∷ []) ++ later))
more size read p None = refl
more size read p (Some later) =
    let same : (read ++ p ∷ []) ++ later ≡ read ++ p ∷ later = append_assoc read (p ∷ []) later in
    rw same refl

pub left-more : (size : ℕ) (read : List Place) (n m : ℕ) (bytes rest : List ℕ) (p : Place) → n ≡ suc m → place_at bytes ≡ Some (p, rest) → left size read n bytes ≡ left size (read ++ p ∷ []) m rest
left-more size read n m bytes rest p one_more e = rw (one_more, e) (more size read p (places_at m rest))

pub within-more : (size : ℕ) (read : List Place) (p : Place) → list_all (lies_within size) read ≡ true → lies_within size p ≡ true → list_all (lies_within size) (read ++ p ∷ []) ≡ true
within-more size read p all e = rw (list_all-append (lies_within size) read (p ∷ []), all, e) refl

eqb_false_sym : (a b : ℕ) → (a == b) ≡ false → (b == a) ≡ false
eqb_false_sym a b e = grind (arith, nat_tests)

distinct_cases : (q p : Place) (qs : List Place) → (are_distinct qs ≡ true → has_place p.field qs ≡ false → are_distinct (qs ++ p ∷ []) ≡ true)
    → (a b : Bool) → has_place q.field qs ≡ a → (q.field == p.field) ≡ b → (not a && are_distinct qs) ≡ true → (b || has_place p.field qs) ≡ false
    → are_distinct (q ∷ (qs ++ p ∷ [])) ≡ true
distinct_cases q p qs ih true b ea eb h g = absurd (cc)
distinct_cases q p qs ih false true ea eb h g = absurd (cc)
distinct_cases q p qs ih false false ea eb h g =
    let others = eqb_false_sym q.field p.field eb in
    rw (list_any-append (λ (r : Place). r.field == q.field) qs (p ∷ []), ea, others, ih h g) refl

pub distinct-more : (read : List Place) (p : Place) → are_distinct read ≡ true → has_place p.field read ≡ false → are_distinct (read ++ p ∷ []) ≡ true
distinct-more [] p h g = refl
distinct-more (q ∷ qs) p h g = distinct_cases q p qs (λ x y. distinct-more qs p x y) (has_place q.field qs) (q.field == p.field) refl refl h g

same_tests : (key q : ℕ) (b : Bool) → cond (is_eq (nat_cmp key q)) true b ≡ (b || ((key == q) || false))
same_tests key q true = grind (arith, nat_tests)
same_tests key q false = grind (arith, nat_tests)

pub seen-more : (read : List Place) (p : Place) (q : ℕ) → cond (is_eq (nat_cmp p.field q)) true (has_place q read) ≡ has_place q (read ++ p ∷ [])
seen-more read p q = same_tests p.field q (has_place q read) ∙ sym (list_any-append (λ (r : Place). r.field == q) read (p ∷ []))

lies_wider : (size wider : ℕ) (p : Place) → size ≤ wider → lies_within size p ≡ true → lies_within wider p ≡ true
lies_wider size wider p h e =
    let parts = and_parts (nat_le p.start p.end) (nat_le p.end size) e in
    let end = leb-true p.end size parts.1 in
    rw (parts.0, le-leb p.end wider (omega arith)) refl

all_wider : (size wider : ℕ) (places : List Place) → size ≤ wider → list_all (lies_within size) places ≡ true → list_all (lies_within wider) places ≡ true
all_wider size wider [] h e = refl
all_wider size wider (p ∷ ps) h e =
    let parts = and_parts (lies_within size p) (list_all (lies_within size) ps) e in
    rw (lies_wider size wider p h parts.0, all_wider size wider ps h parts.1) refl

valid_lie : (size count : ℕ) (table : List ℕ) (places : List Place) → valid_places size count table ≡ Some places → list_all (lies_within size) places ≡ true
valid_lie size count table places e =
    let found = step-some (places_at count table) (λ ps. needs (list_all (lies_within size) ps && are_distinct ps) >>= λ _. Some ps) places e in
    let tested = needs-some (list_all (lies_within size) found.0 && are_distinct found.0) (λ _. Some found.0) places found.2 in
    let both = and_parts (list_all (lies_within size) found.0) (are_distinct found.0) tested.0 in
    rw (some-same tested.1) at both.0

-- the places of a table lie in the file
pub table_lies : (bytes : List ℕ) (places : List Place) → table_of bytes ≡ Some places → list_all (lies_within (length bytes)) places ≡ true
table_lies bytes places e =
    let found = step-some (number_at 4 (drop (length bytes - 4) bytes)) (λ count. needs (nat_le (table_size count.0) (length bytes)) >>= λ _. valid_places (length bytes - table_size count.0) count.0 (drop (length bytes - table_size count.0) bytes)) places e in
    let count = found.0.0 in
    let tested = needs-some (nat_le (table_size count) (length bytes)) (λ _. valid_places (length bytes - table_size count) count (drop (length bytes - table_size count) bytes)) places found.2 in
    all_wider (length bytes - table_size count) (length bytes) places (omega arith) (valid_lie (length bytes - table_size count) count (drop (length bytes - table_size count) bytes) places tested.1)

pub not_added : (added was had : Bool) → added ≡ not was → added ≡ false → was ≡ had → had ≡ true
not_added added true had e f g = sym g
not_added added false had e f g = absurd (cc)

pub was_added : (added was had : Bool) → added ≡ not was → added ≡ true → was ≡ had → had ≡ false
was_added added true had e f g = absurd (cc)
was_added added false had e f g = sym g

pub seen-step : (old new : ℕ → Bool) (read : List Place) (p : Place) (field : ℕ) → field ≡ p.field → ((q : ℕ) → old q ≡ has_place q read) → ((q : ℕ) → new q ≡ cond (is_eq (nat_cmp field q)) true (old q)) → (q : ℕ) → new q ≡ has_place q (read ++ p ∷ [])
seen-step old new read p field same seen updates q = updates q ∙ rw (same, seen q) (seen-more read p q)

-- the place of a field gives its body, and lies in the file
body_cases : (t : Bool) (field : ℕ) (bytes : List ℕ) (p q : Place) (ps : List Place) → (q.field == field) ≡ t → Some p ≡ cond t (Some q) (find (λ (r : Place). r.field == field) ps) → (Some p ≡ find (λ (r : Place). r.field == field) ps → body_of field (map (body_at bytes) ps) ≡ Some (slice_range bytes p.start p.end))
    → body_of field (map (body_at bytes) (q ∷ ps)) ≡ Some (slice_range bytes p.start p.end)
body_cases true field bytes p q ps is e ih = rw (is, some-same e) refl
body_cases false field bytes p q ps is e ih = rw is (ih e)

pub body_found : (field : ℕ) (bytes : List ℕ) (p : Place) (ps : List Place) → Some p ≡ find (λ (r : Place). r.field == field) ps → body_of field (map (body_at bytes) ps) ≡ Some (slice_range bytes p.start p.end)
body_found field bytes p [] e = absurd (cc)
body_found field bytes p (q ∷ ps) e = body_cases (q.field == field) field bytes p q ps refl e (body_found field bytes p ps)

missing_cases : (t : Bool) (field : ℕ) (bytes : List ℕ) (q : Place) (ps : List Place) → (q.field == field) ≡ t → None ≡ cond t (Some q) (find (λ (r : Place). r.field == field) ps) → (None ≡ find (λ (r : Place). r.field == field) ps → body_of field (map (body_at bytes) ps) ≡ None)
    → body_of field (map (body_at bytes) (q ∷ ps)) ≡ None
missing_cases true field bytes q ps is e ih = absurd (cc)
missing_cases false field bytes q ps is e ih = rw is (ih e)

pub body_missing : (field : ℕ) (bytes : List ℕ) (ps : List Place) → None ≡ find (λ (r : Place). r.field == field) ps → body_of field (map (body_at bytes) ps) ≡ None
body_missing field bytes [] e = refl
body_missing field bytes (q ∷ ps) e = missing_cases (q.field == field) field bytes q ps refl e (body_missing field bytes ps)

lies_cases : (t : Bool) (field size : ℕ) (p q : Place) (ps : List Place) → (q.field == field) ≡ t → Some p ≡ cond t (Some q) (find (λ (r : Place). r.field == field) ps) → (lies_within size q && list_all (lies_within size) ps) ≡ true → (list_all (lies_within size) ps ≡ true → Some p ≡ find (λ (r : Place). r.field == field) ps → lies_within size p ≡ true)
    → lies_within size p ≡ true
lies_cases true field size p q ps is e all ih = rw (some-same e) (and_parts (lies_within size q) (list_all (lies_within size) ps) all).0
lies_cases false field size p q ps is e all ih = ih (and_parts (lies_within size q) (list_all (lies_within size) ps) all).1 e

found_lies : (field size : ℕ) (p : Place) (ps : List Place) → list_all (lies_within size) ps ≡ true → Some p ≡ find (λ (r : Place). r.field == field) ps → lies_within size p ≡ true
found_lies field size p [] all e = absurd (cc)
found_lies field size p (q ∷ ps) all e = lies_cases (q.field == field) field size p q ps refl e all (found_lies field size p ps)

pub found_order : (field size : ℕ) (p : Place) (ps : List Place) → list_all (lies_within size) ps ≡ true → Some p ≡ find (λ (r : Place). r.field == field) ps → (p.start ≤ p.end) × (p.end ≤ size)
found_order field size p ps all e =
    let both = and_parts (nat_le p.start p.end) (nat_le p.end size) (found_lies field size p ps all e) in
    (leb-true p.start p.end both.0, leb-true p.end size both.1)

pub body_size : (bytes : List ℕ) (p : Place) → (p.start ≤ p.end) × (p.end ≤ length bytes) → length (slice_range bytes p.start p.end) ≡ p.end - p.start
body_size bytes p order =
    let start = order.0 in
    let end = order.1 in
    length-take-le (p.end - p.start) (drop p.start bytes) (omega (arith, length-drop p.start bytes))

-- Phrases with slop, by windows and with slop 0.
use Rattle.std.proofs.Common.{◌≡◌, ◌∙◌, ℕ, ◌+◌, ◌-◌, ◌≤◌, Bool, true, false, ◌&&◌, ◌||◌, List, [], ◌∷◌, get_or, refl, sym, ap, subst, arith}
use Rattle.std.specs.Prelude.{filter, map, nat_eq, nat_le}
use Rattle.std.specs.List.{AllByRecursion, list_any}
use Rattle.std.proofs.Math.Bool.{or-false}
use Rattle.std.proofs.lemmas.Bool.{and_parts, and_right, or_right}
use Rattle.std.proofs.lemmas.List.Folds.{list_any_at, list_any_none}
use Rattle.std.proofs.lemmas.List.FromFn.{get_or-range_with_len, length-range_with_len}
use Rattle.std.proofs.lemmas.Bool.Decides.{nat_tests}
use Rattle.ii_base.specs.Entries.{Entry, docs_of, document}
use Rattle.ii_docset.specs.Cursor.{doc_at, positions_at}
use Rattle.ii_docset.specs.Intersection.{has_doc}
use Rattle.ii_query.specs.Combined.{IsAtFirst}
use Rattle.ii_query.specs.declared.phrase.TheConstants.{BEFORE_TEXT}
use Rattle.ii_query.specs.Phrase.{IsUnread, PhrasePartState, PhraseTermState, is_at, parts_have, parts_in, parts_pass, phrase_docs, stand_from, stand_here}
use Rattle.ii_query.specs.SloppyPhrase.{are_in_window, is_near, is_within, sloppy_docs, stand_near, stand_near_here, ways_back}
use Rattle.ii_query.proofs.PhraseLemmas.{any_alike, begins_has}
use Rattle.ii_query.proofs.WindowLemmas.{unread_window, within_here}

-- A start in a window: the positions near it by a way back are those in the window.
within_moved : (slop window back p place distance q : ℕ) → window + back ≡ p + place → is_within slop (window + distance) (q + place) ≡ is_within slop (p + distance) (q + back)
within_moved slop window back p place distance q is =
    let low : nat_le (window + distance) (q + place) ≡ nat_le (p + distance) (q + back) = grind (arith, nat_tests) in
    let up : nat_le (q + place) (window + distance + slop) ≡ nat_le (q + back) (p + distance + slop) = grind (arith, nat_tests) in
    rw (low, up) refl

near_moved : (slop window back p place distance : ℕ) (positions : List ℕ) → window + back ≡ p + place → is_near slop place window distance positions ≡ is_near slop back p distance positions
near_moved slop window back p place distance positions is =
    any_alike (λ (q : ℕ). is_within slop (window + distance) (q + place)) (λ (q : ℕ). is_within slop (p + distance) (q + back)) positions (λ q. within_moved slop window back p place distance q is)

-- tests that agree pass alike
pass_alike : (f g : ℕ → List ℕ → Bool) → ((distance : ℕ) (positions : List ℕ) → f distance positions ≡ g distance positions) → (others : List PhrasePartState) → parts_pass f others ≡ parts_pass g others
pass_alike f g same others = ap (λ (test : ℕ → List ℕ → Bool). parts_pass test others) (λ i distance positions. same distance positions i)

near_all : (slop window back p place : ℕ) (others : List PhrasePartState) → window + back ≡ p + place → parts_pass (is_near slop place window) others ≡ parts_pass (is_near slop back p) others
near_all slop window back p place others is = pass_alike (is_near slop place window) (is_near slop back p) (λ distance positions. near_moved slop window back p place distance positions is) others

-- a way back up to the slop is one of them
pub way_found : (test : ℕ → Bool) (slop back : ℕ) → back ≤ slop → test back ≡ true → list_any test (ways_back slop) ≡ true
way_found test slop back up holds =
    let many = length-range_with_len 0 (slop + 1) in
    let there = get_or-range_with_len 0 (slop + 1) back 0 (omega (arith, up)) in
    let same : back ≡ get_or (ways_back slop) back 0 = omega (arith, there) in
    list_any_at test (ways_back slop) back 0 (omega (arith, up, many)) (subst (λ (n : ℕ). test n ≡ true) same holds)

pub way_none : (test : ℕ → Bool) (slop : ℕ) → ((back : ℕ) → back ≤ slop → test back ≡ false) → list_any test (ways_back slop) ≡ false
way_none test slop none =
    list_any_none test (ways_back slop)
    (λ k d inside.
    let many = length-range_with_len 0 (slop + 1) in
    let there = get_or-range_with_len 0 (slop + 1) k d (omega (arith, inside, many)) in
    none (get_or (ways_back slop) k d) (omega (arith, inside, many, there)))

pub within_true : (slop least n : ℕ) → is_within slop least n ≡ true → (least ≤ n) × (n ≤ least + slop)
within_true slop least n is =
    let low : least ≤ n = grind (arith, nat_tests) in
    let up : n ≤ least + slop = grind (arith, nat_tests) in
    (low, up)

other_false : (a b c : Bool) → ((a || b) && c) ≡ false → (b && c) ≡ false
other_false true b c fails = and_right b c fails
other_false false b c fails = fails

-- a position that a window begins at most `slop` before, which all other terms have
pub start_near : (slop window p : ℕ) (others : List PhrasePartState) → p + BEFORE_TEXT ≤ window + slop → window ≤ p + BEFORE_TEXT → parts_pass (is_near slop BEFORE_TEXT window) others ≡ true → stand_near_here slop others p ≡ true
start_near slop window p others low up all =
    let moved : window + (p + BEFORE_TEXT - window) ≡ p + BEFORE_TEXT = omega (arith, up) in
    way_found (λ (n : ℕ). parts_pass (is_near slop n p) others) slop (p + BEFORE_TEXT - window) (omega (arith, low, up)) (sym (near_all slop window (p + BEFORE_TEXT - window) p BEFORE_TEXT others moved) ∙ all)

-- or none
pub start_far : (slop p : ℕ) (others : List PhrasePartState) → slop ≤ BEFORE_TEXT → ((window : ℕ) → p + BEFORE_TEXT ≤ window + slop → window ≤ p + BEFORE_TEXT → parts_pass (is_near slop BEFORE_TEXT window) others ≡ false) → stand_near_here slop others p ≡ false
start_far slop p others small none = way_none (λ (back : ℕ). parts_pass (is_near slop back p) others) slop
    (λ back up.
    let moved : p + BEFORE_TEXT - back + back ≡ p + BEFORE_TEXT = omega (arith, small, up) in
    sym (near_all slop (p + BEFORE_TEXT - back) back p BEFORE_TEXT others moved) ∙ none (p + BEFORE_TEXT - back) (omega (arith, moved, up)) (omega (arith, moved)))

-- all terms have a position in one window
pub window_found : (slop window : ℕ) (positions : List ℕ) (others : List PhrasePartState) → is_near slop BEFORE_TEXT window 0 positions ≡ true → parts_pass (is_near slop BEFORE_TEXT window) others ≡ true
    → list_any (stand_near_here slop others) positions ≡ true
window_found slop window [] others first all = first
window_found slop window (p ∷ ps) others first all = by (is_within slop (window + 0) (p + BEFORE_TEXT)) refl (λ left. window_found slop window ps others left all)
  where
    by : (b : Bool) → is_within slop (window + 0) (p + BEFORE_TEXT) ≡ b → (is_near slop BEFORE_TEXT window 0 ps ≡ true → list_any (stand_near_here slop others) ps ≡ true) → list_any (stand_near_here slop others) (p ∷ ps) ≡ true
    by true is later =
        let in_window = within_true slop (window + 0) (p + BEFORE_TEXT) is in
        let low = in_window.0 in
        let up = in_window.1 in
        let found = start_near slop window p others (omega (arith, up)) (omega (arith, low)) all in
        rw found refl
    by false is later =
        let left : is_near slop BEFORE_TEXT window 0 ps ≡ true = rw is at first in
        or_right (stand_near_here slop others p) (list_any (stand_near_here slop others) ps) (later left)

-- or in none
pub window_missed : (slop : ℕ) (positions : List ℕ) (others : List PhrasePartState) → slop ≤ BEFORE_TEXT → ((window : ℕ) → (is_near slop BEFORE_TEXT window 0 positions && parts_pass (is_near slop BEFORE_TEXT window) others) ≡ false)
    → list_any (stand_near_here slop others) positions ≡ false
window_missed slop [] others low none = refl
window_missed slop (p ∷ ps) others low none =
    let first : stand_near_here slop others p ≡ false = start_far slop p others low
    (λ window down up.
    let near : is_within slop (window + 0) (p + BEFORE_TEXT) ≡ true = within_here slop (window + 0) (p + BEFORE_TEXT) (omega (arith, up)) (omega (arith, down)) in
    rw near at (none window)) in
    rw first (window_missed slop ps others low (λ w. other_false (is_within slop (w + 0) (p + BEFORE_TEXT)) (is_near slop BEFORE_TEXT w 0 ps) (parts_pass (is_near slop BEFORE_TEXT w) others) (none w)))

-- the same of a first term and others of which nothing was read
pub share_found : {P : Type 0} (slop window : ℕ) (first : PhraseTermState P) (others : List (PhraseTermState P)) → IsUnread first → AllByRecursion IsUnread others → first.part.distance ≡ 0 → are_in_window slop (first ∷ others) window ≡ true
    → list_any (stand_near_here slop (parts_in others)) (positions_at first.part.rest) ≡ true
share_found slop window first others unread all leads has =
    let both = rw leads at (sym (unread_window slop window (first ∷ others) (unread, all)) ∙ has) in
    let parts = and_parts (is_near slop BEFORE_TEXT window 0 (positions_at first.part.rest)) (parts_pass (is_near slop BEFORE_TEXT window) (parts_in others)) both in
    window_found slop window (positions_at first.part.rest) (parts_in others) parts.0 parts.1

pub share_missed : {P : Type 0} (slop : ℕ) (first : PhraseTermState P) (others : List (PhraseTermState P)) → IsUnread first → AllByRecursion IsUnread others → first.part.distance ≡ 0 → slop ≤ BEFORE_TEXT → ((window : ℕ) → are_in_window slop (first ∷ others) window ≡ false)
    → list_any (stand_near_here slop (parts_in others)) (positions_at first.part.rest) ≡ false
share_missed slop first others unread all leads low none =
    window_missed slop (positions_at first.part.rest) (parts_in others) low (λ window. rw leads at (sym (unread_window slop window (first ∷ others) (unread, all)) ∙ none window))

-- with slop 0 a term is at its very distance
within_zero : (least n : ℕ) → is_within 0 least (n + 0) ≡ nat_eq n least
within_zero least n = grind (arith, nat_tests)

near_zero : (start distance : ℕ) (positions : List ℕ) → is_near 0 0 start distance positions ≡ is_at start distance positions
near_zero start distance positions = any_alike (λ (p : ℕ). is_within 0 (start + distance) (p + 0)) (λ (p : ℕ). nat_eq p (start + distance)) positions (λ p. within_zero (start + distance) p)

near_is_at : (start : ℕ) → is_near 0 0 start ≡ is_at start
near_is_at start = λ i distance positions. near_zero start distance positions i

pub zero_here : (others : List PhrasePartState) (start : ℕ) → stand_near_here 0 others start ≡ stand_here others start
zero_here others start = or-false (parts_pass (is_near 0 0 start) others) ∙ ap (λ (test : ℕ → List ℕ → Bool). parts_pass test others) (near_is_at start)

zero_from : (others : List PhrasePartState) (doc start : ℕ) → stand_near 0 others doc start ≡ stand_from others doc start
zero_from others doc start = or-false (parts_have (is_near 0 0 start) others doc) ∙ ap (λ (test : ℕ → List ℕ → Bool). parts_have test others doc) (near_is_at start)

-- a phrase with slop 0 is the phrase
pub sloppy_zero : (es : List Entry) (others : List PhrasePartState) → sloppy_docs 0 es others ≡ phrase_docs es others
sloppy_zero es others = ap (λ (holds : Entry → Bool). map document (docs_of (filter holds es))) (λ i e. any_alike (stand_near 0 others e.doc) (stand_from others e.doc) e.positions (zero_from others e.doc) i)

pub zero_at : (es : List Entry) (others : List PhrasePartState) → IsAtFirst es (sloppy_docs 0 es others) → IsAtFirst es (phrase_docs es others)
zero_at es others at = record { sound = at.sound; here = sym (ap doc_at (sloppy_zero es others)) ∙ at.here }

pub zero_same : (es fs : List Entry) (others later : List PhrasePartState) → sloppy_docs 0 fs later ≡ sloppy_docs 0 es others → phrase_docs fs later ≡ phrase_docs es others
zero_same es fs others later same = sym (sloppy_zero fs later) ∙ same ∙ sloppy_zero es others

-- a document has a phrase with slop exactly where its entry has
pub sloppy_has : (slop doc : ℕ) (es : List Entry) (others : List PhrasePartState) → has_doc (sloppy_docs slop es others) doc ≡ list_any (λ (e : Entry). nat_eq e.doc doc && list_any (stand_near slop others doc) e.positions) es
sloppy_has slop doc es others = begins_has (stand_near slop others) doc es

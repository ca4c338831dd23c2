-- The parts of a dictionary, read of the bytes of its file.
use Rattle.std.proofs.Common.{◌≡◌, ◌∙◌, ℕ, ◌+◌, ◌-◌, ◌*◌, ◌<◌, ◌≤◌, List, Some, drop, length, take, refl, sym, ap, arith}
use Rattle.std.specs.Prelude.{IsOk}
use Rattle.std.proofs.lemmas.Bool.{le-leb, lt-leb}
use Rattle.std.proofs.lemmas.List.{drop-drop, length-drop}
use Rattle.ii_io.specs.Numbers.{little_endian, number_at}
use Rattle.ii_termdict.specs.Dictionary.{dictionary, end_of, key_of, key_parts, start_of}
use Rattle.ii_termdict.proofs.DictionaryLemmas.{dictionary-opened, key_lies, no_dictionary}
use Rattle.ii_termdict_slice.specs.Slices.{HasParts, ends_in, from_keys}
use Rattle.ii_termdict_slice.proofs.MetaLemmas.{number_whole}

-- where key i ends
pub end_is : (i : ℕ) (bs : List ℕ) → 16 + 8 * i ≤ length bs → end_of (ends_in bs) i ≡ little_endian (take 8 (drop (8 + 8 * i) bs))
unfolding end_of
end_is i bs h =
    let place = drop-drop (8 * i) 8 bs in
    let room : 8 ≤ length (drop (8 * i) (drop 8 bs)) = omega (arith, h, length-drop (8 * i) (drop 8 bs), length-drop 8 bs) in
    rw (number_whole 8 (drop (8 * i) (drop 8 bs)) room, place) refl

-- bytes without room for a number, or for the ends of so many keys, hold no dictionary
pub no_number : (bs : List ℕ) → length bs < 8 → IsOk (dictionary bs) → ⊥
unfolding key_parts number_at
no_number bs short there = no_dictionary bs (rw (lt-leb 8 (length bs) short) refl) there

pub no_room : (n : ℕ) (bs : List ℕ) → n ≡ little_endian (take 8 (drop 0 bs)) → 8 ≤ length bs → length bs < 8 + 8 * n → IsOk (dictionary bs) → ⊥
unfolding key_parts
no_room n bs is long short there =
    let few : length (drop 8 bs) < 8 * n = omega (arith, short, long, length-drop 8 bs) in
    no_dictionary bs (rw (number_whole 8 bs long, ← is, lt-leb (8 * n) (length (drop 8 bs)) few) refl) there

-- the parts of bytes that hold a dictionary
pub has_parts : (n : ℕ) (bs : List ℕ) → n ≡ little_endian (take 8 (drop 0 bs)) → 8 + 8 * n ≤ length bs → IsOk (dictionary bs) → HasParts n bs
unfolding key_parts
has_parts n bs is room there =
    let long : 8 ≤ length bs = omega (arith, room) in
    let enough : 8 * n ≤ length (drop 8 bs) = omega (arith, room, length-drop 8 bs) in
    let parts : Some (n, ends_in bs, from_keys n bs) ≡ key_parts bs = rw (number_whole 8 bs long, ← is, le-leb (8 * n) (length (drop 8 bs)) enough, drop-drop (8 * n) 8 bs) refl in
    let known = dictionary-opened bs n (ends_in bs) (from_keys n bs) parts enough there in
    record { room = room; opened = known.0; entries = known.1 }

-- a key lies within the bytes
pub key_within : (n i : ℕ) (bs : List ℕ) → HasParts n bs → i < n → (start_of (ends_in bs) i ≤ end_of (ends_in bs) i) × (8 + 8 * n + end_of (ends_in bs) i ≤ length bs)
key_within n i bs parts within =
    let lies = key_lies n (ends_in bs) (from_keys n bs) i within parts.opened.rise in
    (lies.0, omega (arith, lies.1, parts.room, length-drop (8 + 8 * n) bs))

-- the bytes of a key
pub key_is : (n i start end : ℕ) (bs key : List ℕ) → start ≡ start_of (ends_in bs) i → end ≡ end_of (ends_in bs) i → key ≡ take (end - start) (drop (8 + 8 * n + start) bs) → key ≡ key_of (ends_in bs) (from_keys n bs) i
key_is n i start end bs key start_is end_is is = is ∙ ap (take (end - start)) (sym (drop-drop start (8 + 8 * n) bs)) ∙ rw (start_is, end_is) refl

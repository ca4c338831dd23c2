-- A written dictionary reads back.
use Rattle.std.proofs.Common.{◌≡◌, ℕ, zero, suc, ◌+◌, ◌-◌, ◌*◌, ◌^◌, ◌<◌, ◌≤◌, true, List, [], ◌∷◌, ◌++◌, length, take, drop, get_or, nat_le, Some, Ok, refl, sym, ap, ◌∙◌, arith, length-append}
use Rattle.std.specs.Ordering.{nat_cmp, is_lt}
use Rattle.std.specs.Cmp.Lexicographic.{slice_cmp}
use Rattle.std.specs.List.{flat_map, zip}
use Rattle.std.proofs.lemmas.Bool.{le-leb, eq-eqb}
use Rattle.std.proofs.lemmas.List.{append-nil, take_at, drop_at, take_all, take_more, take-append-drop, length-take-le}
use Rattle.std.proofs.lemmas.List.FromFn.{fill_by_all}
use Rattle.std.proofs.lemmas.Grind.{flat_map-append}
use Rattle.std.proofs.lemmas.Map.Keys.{Less-from_sorted}
use Rattle.ii_io.specs.Numbers.{le_bytes}
use Rattle.ii_io.specs.NumberLemmas.{reads_what_is_written, length_le_bytes}
use Rattle.ii_termstore.specs.declared.term_info.TermInfo.{TermInfo}
use Rattle.ii_termstore.specs.TermStore.{term_store}
use Rattle.ii_termdict.specs.Dictionary.{dictionary, end_of, start_of, key_of, keys_of, ends_rise, keys_ascend, is_below, key_parts, store_after, with_infos}
use Rattle.ii_termdict.specs.Written.{ends_from, written_dictionary}
use Rattle.ii_termstore.specs.Written.{written_store}
use Rattle.ii_termstore.specs.ReadBack.{ReadsStoreBack}
use Rattle.ii_termdict.specs.ReadBack.{AreAscending, ReadsDictionaryBack}
use Rattle.ii_termdict.proofs.DictionaryLemmas.{start_of-suc, dictionary-is}
use Rattle.ii_termstore.proofs.ListLemmas.{append_assoc-five, after_front, flat_around, length-each, all_pass}

pub length-ends_from : (start : ℕ) (keys : List (List ℕ)) → length (ends_from start keys) ≡ length keys
length-ends_from start [] = refl
length-ends_from start (k ∷ ks) = ap suc (length-ends_from (start + length k) ks)

-- keys one after the other, and the first of them
abbrev joined : List (List ℕ) → List ℕ
joined keys = flat_map (λ (k : List ℕ). k) keys

abbrev size_of : List (List ℕ) → ℕ → ℕ
size_of keys i = length (joined (take i keys))

size_low : (keys : List (List ℕ)) (i : ℕ) → size_of keys i ≤ length (joined keys)
size_low keys i =
    let whole = ap (λ (ks : List (List ℕ)). length (joined ks)) (sym (take-append-drop i keys)) ∙ ap length (flat_map-append (λ (k : List ℕ). k) (take i keys) (drop i keys)) in
    omega (arith, length-append (joined (take i keys)) (joined (drop i keys)))

size_next : (keys : List (List ℕ)) (i : ℕ) → i < length keys → size_of keys (suc i) ≡ size_of keys i + length (get_or keys i [])
size_next keys i h =
    let one : suc i ≡ i + 1 = omega arith in
    let last = append-nil (get_or keys i []) in
    ap (size_of keys) one ∙ ap (λ (ks : List (List ℕ)). length (joined ks)) (take_more keys i [] h)
    ∙ ap length (flat_map-append (λ (k : List ℕ). k) (take i keys) (get_or keys i [] ∷ []))
    ∙ ap (λ (xs : List ℕ). length (joined (take i keys) ++ xs)) last ∙ length-append (joined (take i keys)) (get_or keys i [])

size_all : (keys : List (List ℕ)) → size_of keys (length keys) ≡ length (joined keys)
size_all keys = ap (λ (ks : List (List ℕ)). length (joined ks)) (take_all (length keys) keys (omega arith))

-- where key i ends
end_at : (start : ℕ) (keys : List (List ℕ)) (i : ℕ) → i < length keys → get_or (ends_from start keys) i 0 ≡ start + size_of keys (suc i)
end_at start [] i h = absurd (omega arith)
end_at start (k ∷ ks) zero h = ap (λ (xs : List ℕ). start + length xs) (sym (append-nil k))
end_at start (k ∷ ks) (suc i) h =
    let ih = end_at (start + length k) ks i (omega arith) in
    ih ∙ omega (arith, length-append k (joined (take (suc i) ks)))

-- What a dictionary's bytes hold after the number of terms, and after the ends.
abbrev body_and : List (List ℕ) → List ℕ → List ℕ
body_and keys rest = joined keys ++ rest

abbrev ends_and : List (List ℕ) → List ℕ → List ℕ
ends_and keys rest = flat_map (le_bytes 8) (ends_from 0 keys) ++ body_and keys rest

end_read : (keys : List (List ℕ)) (rest : List ℕ) (i : ℕ) → length (joined keys) < 2 ^ 64 → i < length keys → end_of (ends_and keys rest) i ≡ size_of keys (suc i)
unfolding end_of
end_read keys rest i small h =
    let many = length-ends_from 0 keys in
    let there : i < length (ends_from 0 keys) = omega arith in
    let e = get_or (ends_from 0 keys) i 0 in
    let around = flat_around (le_bytes 8) (ends_from 0 keys) i 0 there in
    let front = length-each (le_bytes 8) 8 (take i (ends_from 0 keys)) (length_le_bytes 8) in
    let few = length-take-le i (ends_from 0 keys) (omega arith) in
    let place : 8 * i ≡ length (flat_map (le_bytes 8) (take i (ends_from 0 keys))) = omega arith in
    let after = ap (λ (xs : List ℕ). drop (8 * i) (xs ++ body_and keys rest)) around
    ∙ after_front (flat_map (le_bytes 8) (take i (ends_from 0 keys))) (le_bytes 8 (get_or (ends_from 0 keys) i 0)) (flat_map (le_bytes 8) (drop (i + 1) (ends_from 0 keys))) (body_and keys rest) (8 * i) place in
    let value : get_or (ends_from 0 keys) i 0 ≡ size_of keys (suc i) = (let none : 0 + size_of keys (suc i) ≡ size_of keys (suc i) = omega arith in end_at 0 keys i h ∙ none) in
    let low = size_low keys (suc i) in
    let read = reads_what_is_written 8 (get_or (ends_from 0 keys) i 0) (flat_map (le_bytes 8) (drop (i + 1) (ends_from 0 keys)) ++ body_and keys rest) (omega arith) in
    rw (after, read) value

start_read : (keys : List (List ℕ)) (rest : List ℕ) (i : ℕ) → length (joined keys) < 2 ^ 64 → i ≤ length keys → start_of (ends_and keys rest) i ≡ size_of keys i
start_read keys rest zero small h = refl
start_read keys rest (suc i) small h = start_of-suc (ends_and keys rest) i ∙ end_read keys rest i small (omega arith)

key_read : (keys : List (List ℕ)) (rest : List ℕ) (i : ℕ) → length (joined keys) < 2 ^ 64 → i < length keys → key_of (ends_and keys rest) (body_and keys rest) i ≡ get_or keys i []
key_read keys rest i small h =
    let next = size_next keys i h in
    let size : length (get_or keys i []) ≡ size_of keys (suc i) - size_of keys i = omega arith in
    let around = flat_around (λ (k : List ℕ). k) keys i [] h in
    let after = ap (λ (xs : List ℕ). drop (size_of keys i) (xs ++ rest)) around
    ∙ after_front (joined (take i keys)) (get_or keys i []) (joined (drop (i + 1) keys)) rest (size_of keys i) refl in
    rw (start_read keys rest i small (omega arith), end_read keys rest i small h, after)
    (take_at (get_or keys i []) (joined (drop (i + 1) keys) ++ rest) (size_of keys (suc i) - size_of keys i) size)

rise_read : (keys : List (List ℕ)) (rest : List ℕ) → length (joined keys) < 2 ^ 64 → ends_rise (length keys) (ends_and keys rest) (body_and keys rest) ≡ true
rise_read keys rest small =
    let each = all_pass (λ i. nat_le (start_of (ends_and keys rest) i) (end_of (ends_and keys rest) i)) (length keys)
    (λ i within.
    let next = size_next keys i within in
    rw (start_read keys rest i small (omega arith), end_read keys rest i small within) (le-leb (size_of keys i) (size_of keys (suc i)) (omega arith))) in
    let last = start_read keys rest (length keys) small (omega arith) ∙ size_all keys in
    let lies = le-leb (length (joined keys)) (length (body_and keys rest)) (omega (arith, length-append (joined keys) rest)) in
    rw (each, last, lies) refl

ascend_read : (keys : List (List ℕ)) (rest : List ℕ) → length (joined keys) < 2 ^ 64 → AreAscending keys → keys_ascend (length keys) (ends_and keys rest) (body_and keys rest) ≡ true
ascend_read keys rest small ascend =
    all_pass (λ i. is_below (key_of (ends_and keys rest) (body_and keys rest) i) (key_of (ends_and keys rest) (body_and keys rest) (i + 1))) (length keys - 1)
    (λ i within.
    let here = key_read keys rest i small (omega arith) in
    let next = key_read keys rest (i + 1) small (omega arith) in
    let less = Less-from_sorted (slice_cmp nat_cmp) keys i (i + 1) [] ascend (omega arith) (omega arith) in
    ap (λ (k : List ℕ). is_below k (key_of (ends_and keys rest) (body_and keys rest) (i + 1))) here ∙ ap (is_below (get_or keys i [])) next ∙ ap is_lt less)

keys_read : (keys : List (List ℕ)) (rest : List ℕ) → length (joined keys) < 2 ^ 64 → keys_of (length keys) (ends_and keys rest) (body_and keys rest) ≡ keys
keys_read keys rest small =
    sym (fill_by_all (key_of (ends_and keys rest) (body_and keys rest)) keys (length keys) [] refl (λ i within. sym (key_read keys rest i small within)))

store_read : (keys : List (List ℕ)) (rest : List ℕ) → length (joined keys) < 2 ^ 64 → store_after (length keys) (ends_and keys rest) (body_and keys rest) ≡ rest
store_read keys rest small =
    ap (λ (n : ℕ). drop n (body_and keys rest)) (start_read keys rest (length keys) small (omega arith)) ∙ drop_at (joined keys) rest (size_of keys (length keys)) (sym (size_all keys))

parts_read : (keys : List (List ℕ)) (infos : List TermInfo) (rest : List ℕ) → length keys < 2 ^ 64
    → key_parts (written_dictionary keys infos ++ rest) ≡ Some (length keys, ends_and keys (written_store infos ++ rest), body_and keys (written_store infos ++ rest))
unfolding key_parts written_dictionary
parts_read keys infos rest few =
    let ends = flat_map (le_bytes 8) (ends_from 0 keys) in
    let size = length-each (le_bytes 8) 8 (ends_from 0 keys) (length_le_bytes 8) in
    let many = length-ends_from 0 keys in
    let room : length (flat_map (le_bytes 8) (ends_from 0 keys)) ≡ 8 * length keys = omega arith in
    let shape = append_assoc-five (le_bytes 8 (length keys)) (flat_map (le_bytes 8) (ends_from 0 keys)) (joined keys) (written_store infos) rest in
    let first = reads_what_is_written 8 (length keys) (ends_and keys (written_store infos ++ rest)) (omega arith) in
    let there = le-leb (8 * length keys) (length (ends_and keys (written_store infos ++ rest)))
    (omega (arith, length-append (flat_map (le_bytes 8) (ends_from 0 keys)) (body_and keys (written_store infos ++ rest)))) in
    let after = drop_at (flat_map (le_bytes 8) (ends_from 0 keys)) (body_and keys (written_store infos ++ rest)) (8 * length keys) room in
    rw (shape, first, there, after) refl

-- The law of a dictionary, over a store that is read back.
pub reads_dictionary : (keys : List (List ℕ)) (infos : List TermInfo) (rest : List ℕ) → length keys ≡ length infos → AreAscending keys → length (joined keys) < 2 ^ 64 → length keys < 2 ^ 64
    → term_store (written_store infos ++ rest) ≡ Some infos → dictionary (written_dictionary keys infos ++ rest) ≡ Ok (zip keys infos)
reads_dictionary keys infos rest same ascend small few stored =
    let store = written_store infos ++ rest in
    let parts = parts_read keys infos rest few in
    let rise = rise_read keys (written_store infos ++ rest) small in
    let up = ascend_read keys (written_store infos ++ rest) small ascend in
    let whole = dictionary-is (written_dictionary keys infos ++ rest) (length keys) (ends_and keys (written_store infos ++ rest)) (body_and keys (written_store infos ++ rest)) (sym parts) (sym rise) (sym up) in
    let after = store_read keys (written_store infos ++ rest) small ∙ refl in
    let holds = ap term_store after ∙ stored in
    let counts = eq-eqb (length infos) (length keys) (sym same) in
    whole ∙ ap (λ (ks : List (List ℕ)). with_infos ks (term_store (store_after (length keys) (ends_and keys store) (body_and keys store)))) (keys_read keys store small)
    ∙ ap (with_infos keys) holds ∙ rw counts refl

pub reads_dictionary_back : ReadsStoreBack → ReadsDictionaryBack
reads_dictionary_back law keys infos rest same ascend small storable are_joined =
    let few = storable.few in
    reads_dictionary keys infos rest same ascend small (omega arith) (law infos rest storable are_joined)

-- Laws of the entries that bytes hold, and of reading packed entries back.
use Rattle.std.proofs.Common.{◌≡◌, ℕ, suc, ◌+◌, ◌*◌, ◌/◌, ◌%◌, ◌^◌, ◌<◌, ◌≤◌, List, ◌++◌, length, get_or, sym, ap, ◌∙◌, arith}
use Rattle.std.proofs.Math.Nat.{suc-mul, mul-le-mul_right}
use Rattle.std.proofs.lemmas.Nat.{div_below}
use Rattle.std.proofs.lemmas.List.{same_lists, get_or_default, get_or_append_left}
use Rattle.std.specs.Int.{bit_at}
use Rattle.ii_codes.specs.Packed.{bit_in, bits_in, unpacked, packed, IsPacked, HoldsWhatIsUnpacked, HoldsWhatIsPacked}
use Rattle.ii_codes.proofs.PackedLemmas.{bits_in-lt, bit_at-bits_in, same_as_bits_in, length-entries_in, get_or-entries_in, entries_in-entries_in}

pub length-unpacked : (w : ℕ) (bytes : List ℕ) → length (unpacked w bytes) ≡ 128
unfolding unpacked
length-unpacked w bytes = length-entries_in 8 w 128 bytes

pub get_or-unpacked : (w k : ℕ) (bytes : List ℕ) → k < 128 → get_or (unpacked w bytes) k 0 ≡ bits_in 8 bytes (k * w) w
unfolding unpacked
get_or-unpacked w k bytes h = get_or-entries_in 8 w 128 bytes k h

pub length-packed : (w : ℕ) (es : List ℕ) → length (packed w es) ≡ 16 * w
unfolding packed
length-packed w es = length-entries_in w 8 (16 * w) es

-- what is packed is unpacked
pub unpacked-packed : (w : ℕ) (es : List ℕ) → length es ≡ 128 → ((k : ℕ) → k < 128 → get_or es k 0 < 2 ^ w) → unpacked w (packed w es) ≡ es
unfolding unpacked packed
unpacked-packed w es many fits = entries_in-entries_in w 8 128 (16 * w) es many (omega arith) (omega arith) fits

is_unpacked : (w : ℕ) (bytes es : List ℕ) → IsPacked w bytes es → es ≡ unpacked w bytes
is_unpacked w bytes es h =
    let many = h.many in
    same_lists es (unpacked w bytes) (many ∙ sym (length-unpacked w bytes))
    (λ k d within.
    let below : k < 128 = omega arith in
    let there : k < length (unpacked w bytes) = omega (arith, length-unpacked w bytes) in
    get_or_default es k d 0 within
    ∙ same_as_bits_in 8 bytes (k * w) w (get_or es k 0) (h.fits k below) (λ i small. h.bits k i below small)
    ∙ sym (get_or-unpacked w k bytes below)
    ∙ get_or_default (unpacked w bytes) k 0 d there)

unpacked_is : (w : ℕ) (bytes es : List ℕ) → length bytes ≡ 16 * w → es ≡ unpacked w bytes → IsPacked w bytes es
unpacked_is w bytes es whole same = rw same (record {
  whole = whole;
  many = length-unpacked w bytes;
  fits = λ k below. rw (get_or-unpacked w k bytes below) (bits_in-lt 8 bytes (k * w) w);
  bits = λ k i below small. rw (get_or-unpacked w k bytes below) (bit_at-bits_in 8 bytes (k * w) w i small);
})

pub holds_what_is_unpacked : HoldsWhatIsUnpacked
holds_what_is_unpacked w bytes es = (λ h. (h.whole, is_unpacked w bytes es h), λ h. unpacked_is w bytes es h.0 h.1)

pub holds_what_is_packed : HoldsWhatIsPacked
holds_what_is_packed w es many fits = unpacked_is w (packed w es) es (length-packed w es) (sym (unpacked-packed w es many fits))

-- equal bits, equal numbers
pub bits_in_same : (v w : ℕ) (xs ys : List ℕ) (p q n : ℕ) → ((i : ℕ) → i < n → bit_in v xs (p + i) ≡ bit_in w ys (q + i)) → bits_in v xs p n ≡ bits_in w ys q n
bits_in_same v w xs ys p q n h =
    same_as_bits_in w ys q n (bits_in v xs p n) (bits_in-lt v xs p n) (λ i small. bit_at-bits_in v xs p n i small ∙ h i small)

-- bits of a prefix are bits of the complete list
pub bit_in-append : (w : ℕ) (xs ys : List ℕ) (j : ℕ) → 0 < w → j < length xs * w → bit_in w (xs ++ ys) j ≡ bit_in w xs j
bit_in-append w xs ys j some h =
    ap (λ (x : ℕ). bit_at x (j % w)) (get_or_append_left xs ys 0 (j / w) (div_below j w (length xs) some h))

pub bits_in-append : (w : ℕ) (xs ys : List ℕ) (place n : ℕ) → 0 < w → place + n ≤ length xs * w → bits_in w (xs ++ ys) place n ≡ bits_in w xs place n
bits_in-append w xs ys place n some h =
    bits_in_same w w (xs ++ ys) xs place place n (λ i small. bit_in-append w xs ys (place + i) some (omega arith))

-- entry k of a block of n bytes lies in them
entry_in_block : (k w n : ℕ) → k < 128 → n ≡ 16 * w → k * w + w ≤ n * 8
entry_in_block k w n below whole =
    let row : suc k * w ≤ 128 * w = mul-le-mul_right w below in
    omega (arith, row, suc-mul k w)

-- whatever follows
pub unpacked-append : (w : ℕ) (bytes rest : List ℕ) → length bytes ≡ 16 * w → unpacked w (bytes ++ rest) ≡ unpacked w bytes
unpacked-append w bytes rest whole =
    same_lists (unpacked w (bytes ++ rest)) (unpacked w bytes) (length-unpacked w (bytes ++ rest) ∙ sym (length-unpacked w bytes))
    (λ k d within.
    let below : k < 128 = omega (arith, length-unpacked w (bytes ++ rest)) in
    let there : k < length (unpacked w bytes) = omega (arith, length-unpacked w bytes) in
    get_or_default (unpacked w (bytes ++ rest)) k d 0 within
    ∙ get_or-unpacked w k (bytes ++ rest) below
    ∙ bits_in-append 8 bytes rest (k * w) w (omega arith) (entry_in_block k w (length bytes) below whole)
    ∙ sym (get_or-unpacked w k bytes below)
    ∙ get_or_default (unpacked w bytes) k 0 d there)

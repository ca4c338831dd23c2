-- The bits of a block, packed into a buffer.
use Rattle.std.proofs.Common.{◌≡◌, ℕ, suc, ◌+◌, ◌-◌, ◌*◌, ◌/◌, ◌<◌, ◌≤◌, List, [], ◌∷◌, ◌++◌, length, take, map, get_or, max, refl, sym, ap, ◌∙◌, arith, length-append, append_assoc}
use Rattle.std.specs.List.{flat_map}
use Rattle.std.proofs.Math.Nat.{zero-mul, suc-mul}
use Rattle.std.proofs.Math.Seq.{take-append-add}
use Rattle.std.proofs.lemmas.List.{take-append-le, map_more, take_more, flat_map_more, length-take-le, take_all}
use Rattle.ii_codes.specs.Packed.{entries_in}
use Rattle.ii_codes.specs.Bits.{low_bits, whole_bytes, bits_left, bits_bytes, WritesOneRow}
use Rattle.ii_codes.proofs.BitsLemmas.{length-low_bits, length-bits_left}
use Rattle.ii_termstore.specs.declared.term_info.TermInfo.{TermInfo}
use Rattle.ii_termstore.specs.declared.term_info_store.block_meta.TermInfoBlockMeta.{TermInfoBlockMeta as Meta}
use Rattle.ii_termstore.specs.TermInfos.{term_info_from}
use Rattle.ii_termstore.specs.TermStore.{term_bits}
use Rattle.ii_termstore.specs.Written.{IsPacking, largest, last_of, term_row, block_row, info_in, postings_after, positions_after, postings_end, positions_end}

-- what is put after the first bytes of a buffer
pub put_after : (buffer part tail bytes : List ℕ) (count n : ℕ) → count ≤ length buffer → n ≤ length part → take n part ≡ bytes → take (count + n) (take count buffer ++ (part ++ tail)) ≡ take count buffer ++ bytes
put_after buffer part tail bytes count n within fits e =
    let size = length-take-le count buffer within in
    ap (λ (k : ℕ). take (k + n) (take count buffer ++ (part ++ tail))) (sym size) ∙ take-append-add (take count buffer) (part ++ tail) n
    ∙ ap (λ (bs : List ℕ). take count buffer ++ bs) (take-append-le n part tail fits ∙ e)

-- one number more of a row
pub packs_more : (law : WritesOneRow) (buffer new : List ℕ) (count n : ℕ) (pending row more : List ℕ) → IsPacking buffer count pending row
    → take (count + n) new ≡ take count buffer ++ whole_bytes (pending ++ more) → n ≡ (length pending + length more) / 8 → IsPacking new (count + n) (bits_left (pending ++ more)) (row ++ more)
packs_more law buffer new count n pending row more h whole e =
    let joined = law row more in
    let same = h.left in
    let size = ap length same ∙ length-bits_left row in
    let before = h.size in
    record {
      bytes = whole ∙ ap (λ (bs : List ℕ). bs ++ whole_bytes (pending ++ more)) h.bytes ∙ ap (λ (bs : List ℕ). whole_bytes row ++ whole_bytes (bs ++ more)) same ∙ joined.0;
      size = omega (arith, length-append row more);
      left = ap (λ (bs : List ℕ). bits_left (bs ++ more)) same ∙ joined.1;
    }

-- the end of a row
pub packs_all : (law : WritesOneRow) (buffer part tail : List ℕ) (count n : ℕ) (pending row : List ℕ) → count ≤ length buffer → n ≤ length part → IsPacking buffer count pending row → take n part ≡ bits_bytes pending
    → take (count + n) (take count buffer ++ (part ++ tail)) ≡ bits_bytes row
packs_all law buffer part tail count n pending row within fits h last =
    let joined = law row [] in
    put_after buffer part tail (bits_bytes pending) count n within fits last ∙ ap (λ (bs : List ℕ). bs ++ bits_bytes pending) h.bytes ∙ ap (λ (bs : List ℕ). whole_bytes row ++ bits_bytes bs) h.left ∙ joined.2

pub packing_begins : (buffer pending : List ℕ) → pending ≡ [] → IsPacking buffer 0 pending []
unfolding whole_bytes entries_in
packing_begins buffer pending e = record { bytes = refl; size = omega arith; left = e }

-- one number more among which the largest is sought
pub largest-push : (ns : List ℕ) (n : ℕ) → largest (ns ++ n ∷ []) ≡ max (largest ns) n
largest-push [] n = omega arith
largest-push (m ∷ ns) n = let ih = largest-push ns n in rw ih (omega arith)

pub largest_more : {X : Type 0} (f : X → ℕ) (xs : List X) (i : ℕ) (d : X) (most next : ℕ) → i < length xs → most ≡ largest (map f (take i xs)) → next ≡ max most (f (get_or xs i d)) → next ≡ largest (map f (take (i + 1) xs))
largest_more f xs i d most next h e n = rw (map_more f xs i d h) (sym (largest-push (map f (take i xs)) (f (get_or xs i d)) ∙ ap (λ (m : ℕ). max m (f (get_or xs i d))) (sym e) ∙ sym n))

pub three_rows : (row a b c : List ℕ) → ((row ++ a) ++ b) ++ c ≡ row ++ ((a ++ b) ++ c)
three_rows row a b c = ap (λ (xs : List ℕ). xs ++ c) (append_assoc row a b) ∙ append_assoc row (a ++ b) c

pub last_of-get_or : (first : TermInfo) (others : List TermInfo) (d : TermInfo) → 0 < length others → get_or others (length others - 1) d ≡ last_of first others
last_of-get_or first [] d h = absurd (omega arith)
last_of-get_or first (i ∷ []) d h = refl
last_of-get_or first (i ∷ j ∷ is) d h =
    let ih = last_of-get_or i (j ∷ is) d (omega arith) in
    let place : suc (suc (length is)) - 1 ≡ suc (suc (length is) - 1) = omega arith in
    rw place ih

pub length-term_row : (m : Meta) (i : TermInfo) → length (term_row m i) ≡ term_bits m
length-term_row m i =
    let a = length-low_bits m.postings_offset_nbits (postings_after m.ref_term_info i) in
    let b = length-low_bits m.positions_offset_nbits (positions_after m.ref_term_info i) in
    let c = length-low_bits m.doc_freq_nbits i.doc_freq in
    omega (
      arith,
      length-append (low_bits m.postings_offset_nbits (postings_after m.ref_term_info i) ++ low_bits m.positions_offset_nbits (positions_after m.ref_term_info i)) (low_bits m.doc_freq_nbits i.doc_freq),
      length-append (low_bits m.postings_offset_nbits (postings_after m.ref_term_info i)) (low_bits m.positions_offset_nbits (positions_after m.ref_term_info i)),
    )

pub length-rows : (m : Meta) (is : List TermInfo) → length (flat_map (term_row m) is) ≡ length is * term_bits m
length-rows m [] = sym (zero-mul (term_bits m))
length-rows m (i ∷ is) = length-append (term_row m i) (flat_map (term_row m) is) ∙ ap (λ (n : ℕ). n + length (flat_map (term_row m) is)) (length-term_row m i)
    ∙ ap (λ (n : ℕ). term_bits m + n) (length-rows m is) ∙ turned (length is) (term_bits m)
  where
    turned : (n t : ℕ) → t + n * t ≡ suc n * t
    turned n t = omega (arith, suc-mul n t)

pub length-block_row : (m : Meta) (others : List TermInfo) → length (block_row m others) ≡ length others * term_bits m + m.postings_offset_nbits + m.positions_offset_nbits
length-block_row m others =
    let rows = length-rows m others in
    let a = length-low_bits m.postings_offset_nbits (postings_end m.ref_term_info others) in
    let b = length-low_bits m.positions_offset_nbits (positions_end m.ref_term_info others) in
    omega (
      arith,
      length-append (flat_map (term_row m) others ++ low_bits m.postings_offset_nbits (postings_end m.ref_term_info others)) (low_bits m.positions_offset_nbits (positions_end m.ref_term_info others)),
      length-append (flat_map (term_row m) others) (low_bits m.postings_offset_nbits (postings_end m.ref_term_info others)),
    )

-- one term more of a block
pub rows_more : (m : Meta) (others : List TermInfo) (k : ℕ) → k < length others → flat_map (term_row m) (take (k + 1) others) ≡ flat_map (term_row m) (take k others) ++ term_row m (info_in others k)
rows_more m others k h =
    ap (flat_map (term_row m)) (take_more others k (term_info_from 0 0 0 0 0) h)
    ∙ sym (flat_map_more (term_row m) [] (take k others) (info_in others k))

pub rows_all : (m : Meta) (others : List TermInfo) (k : ℕ) → length others ≤ k → flat_map (term_row m) (take k others) ≡ flat_map (term_row m) others
rows_all m others k h = ap (flat_map (term_row m)) (take_all k others h)

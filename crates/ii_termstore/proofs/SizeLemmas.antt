-- The greatest number of bytes of a store.
use Rattle.std.proofs.Common.{ℕ, zero, suc, ◌+◌, ◌*◌, ◌≤◌, List, [], ◌∷◌, ◌++◌, length, drop, take, map, max, arith, length-append, length-drop}
use Rattle.std.specs.List.{flat_map, range_with_len}
use Rattle.std.proofs.lemmas.List.FromFn.{length-range_with_len}
use Rattle.ii_io.specs.Numbers.{le_bytes}
use Rattle.ii_io.specs.NumberLemmas.{length_le_bytes}
use Rattle.ii_codes.specs.Bits.{low_bits}
use Rattle.ii_codes.proofs.BitsLemmas.{length-bits_bytes, length-low_bits}
use Rattle.ii_termstore.specs.declared.term_info.TermInfo.{TermInfo}
use Rattle.ii_termstore.specs.declared.term_info_store.TheConstants.{BLOCK_LEN}
use Rattle.ii_termstore.specs.declared.term_info_store.block_meta.TermInfoBlockMeta.{TermInfoBlockMeta as Meta}
use Rattle.ii_termstore.specs.TermStore.{block_count, meta_bytes, meta_size}
use Rattle.ii_termstore.specs.TermStoreLemmas.{length_meta_bytes}
use Rattle.ii_termstore.specs.Written.{bits_of_block, block_row, blocks_bytes, first_of, largest, meta_at_block, meta_for, metas_bytes, positions_after, positions_end, postings_after, postings_end, term_row, terms_of_block, written_store}
use Rattle.ii_codes.proofs.SizeLemmas.{num_bits-le}
pub use Rattle.ii_codes.proofs.SizeLemmas.{length-flat_map-le}

-- the widths of a block's numbers
record IsNarrow (m : Meta) : Type 0 where
  pub doc_freq : m.doc_freq_nbits ≤ 64
  pub postings : m.postings_offset_nbits ≤ 64
  pub positions : m.positions_offset_nbits ≤ 64

is_narrow : (offset : ℕ) (first : TermInfo) (others : List TermInfo) → IsNarrow (meta_for offset first others)
unfolding meta_for
is_narrow offset first others = record {
  doc_freq = num_bits-le (largest (map (λ (i : TermInfo). i.doc_freq) others));
  postings = num_bits-le (max (largest (map (postings_after first) others)) (postings_end first others));
  positions = num_bits-le (max (largest (map (positions_after first) others)) (positions_end first others));
}

length-term_row-le : (m : Meta) → IsNarrow m → (i : TermInfo) → length (term_row m i) ≤ 192
length-term_row-le m narrow i =
    let first = low_bits m.postings_offset_nbits (postings_after m.ref_term_info i) in
    let second = low_bits m.positions_offset_nbits (positions_after m.ref_term_info i) in
    let third = low_bits m.doc_freq_nbits i.doc_freq in
    omega (
      arith,
      length-append (first ++ second) third,
      length-append first second,
      length-low_bits m.postings_offset_nbits (postings_after m.ref_term_info i),
      length-low_bits m.positions_offset_nbits (positions_after m.ref_term_info i),
      length-low_bits m.doc_freq_nbits i.doc_freq,
      narrow.doc_freq,
      narrow.postings,
      narrow.positions,
    )

length-block_row-le : (m : Meta) → IsNarrow m → (others : List TermInfo) → length (block_row m others) ≤ length others * 192 + 128
length-block_row-le m narrow others =
    let rows = flat_map (term_row m) others in
    let postings = low_bits m.postings_offset_nbits (postings_end m.ref_term_info others) in
    let positions = low_bits m.positions_offset_nbits (positions_end m.ref_term_info others) in
    omega (
      arith,
      length-append (rows ++ postings) positions,
      length-append rows postings,
      length-low_bits m.postings_offset_nbits (postings_end m.ref_term_info others),
      length-low_bits m.positions_offset_nbits (positions_end m.ref_term_info others),
      length-flat_map-le (term_row m) 192 (length-term_row-le m narrow) others,
      narrow.postings,
      narrow.positions,
    )

length-take-most : {A : Type 0} (n : ℕ) (xs : List A) → length (take n xs) ≤ n
length-take-most zero xs = omega arith
length-take-most (suc n) [] = omega arith
length-take-most (suc n) (x ∷ xs) = omega (arith, length-take-most n xs)

length-bits_of_block-le : (infos : List TermInfo) (b : ℕ) → length (bits_of_block infos b) ≤ 6161
unfolding bits_of_block
length-bits_of_block-le infos b =
    let block = terms_of_block infos b in
    let others = drop 1 block in
    let m = meta_for 0 (first_of block) others in
    omega (
      arith,
      length-bits_bytes (block_row m others),
      length-block_row-le m (is_narrow 0 (first_of block) others) others,
      length-drop 1 block,
      length-take-most BLOCK_LEN (drop (BLOCK_LEN * b) infos),
    )

-- a store of n terms
pub length-written_store-le : (infos : List TermInfo) → length (written_store infos) ≤ 16 + 6200 * length infos
unfolding written_store
length-written_store-le infos =
    let n = length infos in
    let blocks = block_count n in
    let metas = metas_bytes infos blocks in
    let bits = blocks_bytes infos blocks in
    omega (
      arith,
      length-append (le_bytes 8 (meta_size * blocks) ++ le_bytes 8 n ++ metas) bits,
      length-append (le_bytes 8 (meta_size * blocks) ++ le_bytes 8 n) metas,
      length-append (le_bytes 8 (meta_size * blocks)) (le_bytes 8 n),
      length_le_bytes 8 (meta_size * blocks),
      length_le_bytes 8 n,
      length-flat_map-le (λ b. meta_bytes (meta_at_block infos b)) 39 (λ b. omega (arith, length_meta_bytes (meta_at_block infos b))) (range_with_len 0 blocks),
      length-flat_map-le (bits_of_block infos) 6161 (length-bits_of_block-le infos) (range_with_len 0 blocks),
      length-range_with_len 0 blocks,
    )

-- The greatest number of bytes of a term.
use Rattle.std.proofs.Common.{◌≡◌, ℕ, zero, suc, ◌+◌, ◌*◌, ◌/◌, ◌≤◌, true, false, List, [], ◌∷◌, ◌++◌, length, drop, map, arith, length-append, length-drop}
use Rattle.std.specs.Prelude.{Option, slice_index}
use Rattle.std.specs.List.{flat_map, range_with_len, sum}
use Rattle.std.proofs.lemmas.List.{length-map}
use Rattle.std.proofs.lemmas.List.FromFn.{length-range_with_len}
use Rattle.ii_io.specs.Numbers.{le_bytes}
use Rattle.ii_io.specs.NumberLemmas.{length_le_bytes}
use Rattle.ii_io.specs.Vints.{vint_u64}
use Rattle.ii_base.specs.declared.schema.index_record_option.IndexRecordOption.{IndexRecordOption}
use Rattle.ii_base.specs.declared.schema.index_record_option.IndexRecordOption.TheVariants.{Basic, WithFreqs, WithFreqsAndPositions}
use Rattle.ii_fieldnorm.specs.Readers.{Norms}
use Rattle.ii_codes.specs.Blocks.{sorted_bytes, sorted_width, unsorted_bytes, unsorted_width}
use Rattle.ii_codes.specs.SortedVints.{sorted_vints}
use Rattle.ii_codes.specs.UnsortedVints.{unsorted_vints}
use Rattle.ii_layout.specs.Positions.{written_positions}
use Rattle.ii_layout.specs.SkipList.{entry_size}
use Rattle.ii_layout.specs.Written.{block_bytes, block_of, bound_bytes, code_of_width, entry_bytes, entry_of_block, freq_part, last_before, packed_freqs, rest_freqs, skip_bytes, written_postings}
use Rattle.ii_codes.proofs.SizeLemmas.{length-flat_map-le, length-sorted_bytes-le, length-sorted_vints-le, length-unsorted_bytes-le, length-unsorted_vints-le, length-vint_u64-le}

length-freq_part-le : (norms : Option Norms) (skip_info : IndexRecordOption) (docs freqs : List ℕ) → length (freq_part norms skip_info docs freqs) ≤ 7
length-freq_part-le norms Basic docs freqs = omega arith
length-freq_part-le norms WithFreqs docs freqs = omega arith
length-freq_part-le norms WithFreqsAndPositions docs freqs = omega (arith, length-append (le_bytes 4 (sum freqs)) (bound_bytes norms docs freqs), length_le_bytes 4 (sum freqs))

length-entry_of_block : (last : ℕ) (block : List ℕ) → length (entry_of_block last block) ≡ 5
length-entry_of_block last block =
    omega (arith, length-append (le_bytes 4 (slice_index block 127)) (code_of_width (sorted_width last block) ∷ []), length_le_bytes 4 (slice_index block 127))

length-packed_freqs-le : (skip_info : IndexRecordOption) (freqs : List ℕ) → length (packed_freqs skip_info freqs) ≤ 1024
length-packed_freqs-le Basic freqs = omega arith
length-packed_freqs-le WithFreqs freqs = length-unsorted_bytes-le true freqs
length-packed_freqs-le WithFreqsAndPositions freqs = length-unsorted_bytes-le true freqs

length-rest_freqs-le : (skip_info : IndexRecordOption) (freqs : List ℕ) → length (rest_freqs skip_info freqs) ≤ length freqs * 5
length-rest_freqs-le Basic freqs = omega arith
length-rest_freqs-le WithFreqs freqs = length-unsorted_vints-le freqs
length-rest_freqs-le WithFreqsAndPositions freqs = length-unsorted_vints-le freqs

module _ (norms : Option Norms) (skip_info : IndexRecordOption) (docs freqs : List ℕ) where
  length-entry_bytes-le : (i : ℕ) → length (entry_bytes norms skip_info docs freqs i) ≤ 12
  length-entry_bytes-le i =
      let entry = entry_of_block (last_before docs i) (block_of docs i) in
      let part = freq_part norms skip_info (block_of docs i) (block_of freqs i) in
      omega (arith, length-append entry part, length-entry_of_block (last_before docs i) (block_of docs i), length-freq_part-le norms skip_info (block_of docs i) (block_of freqs i))

  length-block_bytes-le : (i : ℕ) → length (block_bytes skip_info docs freqs i) ≤ 2048
  length-block_bytes-le i =
      let own = sorted_bytes (last_before docs i) (block_of docs i) in
      omega (arith, length-append own (packed_freqs skip_info (block_of freqs i)), length-sorted_bytes-le (last_before docs i) (block_of docs i), length-packed_freqs-le skip_info (block_of freqs i))

  length-skip_bytes-le : (blocks : ℕ) → length (skip_bytes norms skip_info docs freqs blocks) ≤ 10 + blocks * 12
  length-skip_bytes-le zero = omega arith
  length-skip_bytes-le (suc more) =
      let size = vint_u64 (entry_size skip_info * suc more) in
      let entries = flat_map (entry_bytes norms skip_info docs freqs) (range_with_len 0 (suc more)) in
      omega (
        arith,
        length-append size entries,
        length-vint_u64-le (entry_size skip_info * suc more),
        length-flat_map-le (entry_bytes norms skip_info docs freqs) 12 length-entry_bytes-le (range_with_len 0 (suc more)),
        length-range_with_len 0 (suc more),
      )

  -- a term of n documents has at most 10 + 27 n bytes
  pub length-written_postings-le : length freqs ≡ length docs → length (written_postings norms skip_info docs freqs) ≤ 10 + 27 * length docs
  length-written_postings-le many =
      let blocks = length docs / 128 in
      let skip = skip_bytes norms skip_info docs freqs blocks in
      let full = flat_map (block_bytes skip_info docs freqs) (range_with_len 0 blocks) in
      let last_docs = drop (128 * blocks) docs in
      let last_freqs = drop (128 * blocks) freqs in
      let vints = sorted_vints (last_before docs blocks) last_docs in
      omega (
        arith,
        many,
        length-append (skip ++ full) (vints ++ rest_freqs skip_info last_freqs),
        length-append skip full,
        length-append vints (rest_freqs skip_info last_freqs),
        length-skip_bytes-le blocks,
        length-flat_map-le (block_bytes skip_info docs freqs) 2048 length-block_bytes-le (range_with_len 0 blocks),
        length-range_with_len 0 blocks,
        length-sorted_vints-le (last_before docs blocks) last_docs,
        length-rest_freqs-le skip_info last_freqs,
        length-drop (128 * blocks) docs,
        length-drop (128 * blocks) freqs,
      )

-- positions of n deltas have at most 10 + 14 n bytes
pub length-written_positions-le : (deltas : List ℕ) → length (written_positions deltas) ≤ 10 + 14 * length deltas
length-written_positions-le deltas =
    let blocks = length deltas / 128 in
    let widths = map (λ i. unsorted_width false (block_of deltas i)) (range_with_len 0 blocks) in
    let full = flat_map (λ i. unsorted_bytes false (block_of deltas i)) (range_with_len 0 blocks) in
    let rest = drop (128 * blocks) deltas in
    omega (
      arith,
      length-append (vint_u64 blocks ++ widths ++ full) (unsorted_vints rest),
      length-append (vint_u64 blocks ++ widths) full,
      length-append (vint_u64 blocks) widths,
      length-vint_u64-le blocks,
      length-map (range_with_len 0 blocks) (λ i. unsorted_width false (block_of deltas i)),
      length-range_with_len 0 blocks,
      length-flat_map-le (λ i. unsorted_bytes false (block_of deltas i)) 1024 (λ i. length-unsorted_bytes-le false (block_of deltas i)) (range_with_len 0 blocks),
      length-unsorted_vints-le rest,
      length-drop (128 * blocks) deltas,
    )

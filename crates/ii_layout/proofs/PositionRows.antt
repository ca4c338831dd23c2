-- Worked rows of positions, each computed.
use Rattle.std.specs.Prelude.{◌≡◌, ℕ, List, [], ◌∷◌, ◌++◌, replicate, refl, Some, None, Ok, Err}
use Rattle.std.specs.List.{concat}
use Rattle.ii_base.specs.declared.schema.index_record_option.IndexRecordOption.TheVariants.{WithFreqs, WithFreqsAndPositions}
use Rattle.ii_io.specs.declared.faults.Part.TheVariants.{Positions}
use Rattle.ii_io.specs.Vints.{vint_u32, vint_u64, u32_at, u64_at}
use Rattle.ii_codes.specs.Packed.{bits_in, entries_in, packed, unpacked, num_bits}
use Rattle.ii_codes.specs.Blocks.{unsorted_block_at}
use Rattle.ii_base.specs.Entries.{Entry, document, counted}
use Rattle.ii_layout.specs.Positions.{position_deltas, positions_of, written_positions}
use Rattle.ii_layout.specs.TermList.{term_list}

abbrev pub at : ℕ → List ℕ → Entry
at d ps = record { doc = d; term_freq = 2; positions = ps }

-- one document with two positions, without position bytes, and with one delta too few
pub row_two : term_list WithFreqsAndPositions WithFreqsAndPositions 1 (0x80 ∷ 0x82 ∷ []) (Some (0x80 ∷ 0x80 ∷ 0x84 ∷ [])) ≡ Ok (at 0 (0 ∷ 4 ∷ []) ∷ [])
unfolding u32_at u64_at
row_two = refl

pub row_none_given : term_list WithFreqsAndPositions WithFreqsAndPositions 1 (0x80 ∷ 0x82 ∷ []) None ≡ Ok (counted 0 2 ∷ [])
unfolding u32_at u64_at
row_none_given = refl

pub row_few : term_list WithFreqsAndPositions WithFreqsAndPositions 1 (0x80 ∷ 0x82 ∷ []) (Some (0x80 ∷ 0x80 ∷ [])) ≡ Err Positions
unfolding u32_at u64_at
row_few = refl

pub row_many : term_list WithFreqsAndPositions WithFreqsAndPositions 1 (0x80 ∷ 0x82 ∷ []) (Some (0x80 ∷ 0x80 ∷ 0x84 ∷ 0x80 ∷ [])) ≡ Err Positions
unfolding u32_at u64_at
row_many = refl

pub row_empty : term_list WithFreqsAndPositions WithFreqsAndPositions 1 (0x80 ∷ 0x82 ∷ []) (Some []) ≡ Err Positions
unfolding u32_at u64_at
row_empty = refl

-- not asked for, or of a term without counts: the bytes aren't looked at
pub row_not_asked : term_list WithFreqsAndPositions WithFreqs 1 (0x80 ∷ 0x82 ∷ []) (Some []) ≡ Ok (counted 0 2 ∷ [])
unfolding u32_at u64_at
row_not_asked = refl

pub row_number : term_list WithFreqsAndPositions WithFreqsAndPositions 1 (0x80 ∷ []) (Some (0x80 ∷ [])) ≡ Ok (document 0 ∷ [])
unfolding u32_at u64_at
row_number = refl

-- a position above 32 bits
pub row_large : term_list WithFreqsAndPositions WithFreqsAndPositions 1 (0x80 ∷ 0x82 ∷ []) (Some (0x80 ∷ 0x81 ∷ 0x7F ∷ 0x7F ∷ 0x7F ∷ 0x7F ∷ 0x8F ∷ [])) ≡ Err Positions
unfolding u32_at u64_at
row_large = refl

-- three positions 0, 1, 2 in each of 128 documents
pub row_block : written_positions (concat (replicate 128 (0 ∷ 1 ∷ 1 ∷ []))) ≡ 0x83 ∷ 1 ∷ 1 ∷ 1 ∷ concat (replicate 16 (0xB6 ∷ 0x6D ∷ 0xDB ∷ []))
unfolding vint_u64 packed num_bits entries_in bits_in
row_block = refl

pub row_block_read : position_deltas (0x83 ∷ 1 ∷ 1 ∷ 1 ∷ concat (replicate 16 (0xB6 ∷ 0x6D ∷ 0xDB ∷ []))) ≡ Some (concat (replicate 128 (0 ∷ 1 ∷ 1 ∷ [])))
unfolding u64_at unsorted_block_at unpacked entries_in bits_in
row_block_read = refl

-- 120 documents with the deltas 1, 2, 3, 2
pub row_rest : written_positions (concat (replicate 120 (1 ∷ 2 ∷ 3 ∷ 2 ∷ []))) ≡ 0x83 ∷ 2 ∷ 2 ∷ 2 ∷ replicate 96 0xB9 ++ concat (replicate 24 (0x81 ∷ 0x82 ∷ 0x83 ∷ 0x82 ∷ []))
unfolding vint_u32 vint_u64 packed num_bits entries_in bits_in
row_rest = refl

pub row_rest_read : position_deltas (0x83 ∷ 2 ∷ 2 ∷ 2 ∷ replicate 96 0xB9 ++ concat (replicate 24 (0x81 ∷ 0x82 ∷ 0x83 ∷ 0x82 ∷ []))) ≡ Some (concat (replicate 120 (1 ∷ 2 ∷ 3 ∷ 2 ∷ [])))
unfolding u32_at u64_at unsorted_block_at unpacked entries_in bits_in
row_rest_read = refl

-- a width above 32, and a block that is cut
pub row_wide : position_deltas (0x81 ∷ 33 ∷ replicate 528 0) ≡ None
unfolding u64_at unsorted_block_at
row_wide = refl

pub row_cut : position_deltas (0x81 ∷ 1 ∷ replicate 15 0) ≡ None
unfolding u64_at unsorted_block_at
row_cut = refl

-- 128 vints are too many
pub row_vints : position_deltas (0x80 ∷ replicate 128 0x80) ≡ None
unfolding u64_at u32_at
row_vints = refl

pub row_sums : positions_of (2 ∷ 0 ∷ 1 ∷ []) (3 ∷ 4 ∷ 5 ∷ []) ≡ (3 ∷ 7 ∷ []) ∷ [] ∷ (5 ∷ []) ∷ []
row_sums = refl

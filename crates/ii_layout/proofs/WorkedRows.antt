-- Worked rows, each computed.
use Rattle.std.specs.Prelude.{◌≡◌, ◌*◌, [], ◌∷◌, ◌++◌, replicate, refl, true, Ok, Err, map, None, Some}
use Rattle.std.specs.List.{range_with_len}
use Rattle.ii_base.specs.declared.schema.index_record_option.IndexRecordOption.TheVariants.{Basic, WithFreqs, WithFreqsAndPositions}
use Rattle.ii_io.specs.declared.faults.Part.TheVariants.{Skip, Documents, Frequencies}
use Rattle.ii_io.specs.Numbers.{le_bytes}
use Rattle.ii_io.specs.Vints.{vint_u32, vint_u64, u32_at, u64_at}
use Rattle.ii_base.specs.declared.doc_id.TheConstants.{TERMINATED}
use Rattle.ii_codes.specs.Packed.{bits_in, entries_in, packed, unpacked, num_bits}
use Rattle.ii_codes.specs.Blocks.{sorted_block_at, unsorted_block_at}
use Rattle.ii_base.specs.Entries.{document, counted}
use Rattle.ii_fieldnorm.specs.Readers.{norms_of_ids}
use Rattle.ii_layout.specs.Bounds.{term_freq_bound}
use Rattle.ii_layout.specs.declared.skip.BlockInfo.TheVariants.{BitPacked, VInt}
use Rattle.ii_layout.specs.SkipList.{entry_at, entries_at}
use Rattle.ii_layout.specs.SkipReader.{reader_at}
use Rattle.ii_layout.specs.Postings.{posting_list}
use Rattle.ii_layout.specs.Written.{written_documents, written_postings}

pub row_three : written_documents (0 ∷ 2 ∷ 10 ∷ []) ≡ 0x80 ∷ 0x82 ∷ 0x88 ∷ []
unfolding vint_u32
row_three = refl

-- 128 documents in a row, from 0 on: one block of width 0
pub row_full : written_documents (range_with_len 0 128) ≡ 0x85 ∷ 0x7F ∷ 0 ∷ 0 ∷ 0 ∷ 0x40 ∷ []
unfolding vint_u32 vint_u64 le_bytes packed num_bits entries_in bits_in
row_full = refl

-- two documents after a full block
pub row_after : written_documents (range_with_len 0 128 ++ 129 ∷ 130 ∷ []) ≡ 0x85 ∷ 0x7F ∷ 0 ∷ 0 ∷ 0 ∷ 0x40 ∷ 0x82 ∷ 0x81 ∷ []
unfolding vint_u32 vint_u64 le_bytes packed num_bits entries_in bits_in
row_after = refl

-- every second document, by entries of one bit
pub row_even : written_documents (map (λ k. 2 * k) (range_with_len 0 128)) ≡ 0x85 ∷ 0xFE ∷ 0 ∷ 0 ∷ 0 ∷ 0x41 ∷ 0xFE ∷ replicate 15 0xFF
unfolding vint_u32 vint_u64 le_bytes packed num_bits entries_in bits_in
row_even = refl

-- from 1 on, after the offset 0
pub row_from_one : written_documents (range_with_len 1 128) ≡ 0x85 ∷ 0x80 ∷ 0 ∷ 0 ∷ 0 ∷ 0x41 ∷ 1 ∷ replicate 15 0
unfolding vint_u32 vint_u64 le_bytes packed num_bits entries_in bits_in
row_from_one = refl

-- two full blocks
pub row_two : written_documents (range_with_len 0 256) ≡ 0x8A ∷ 0x7F ∷ 0 ∷ 0 ∷ 0 ∷ 0x40 ∷ 0xFF ∷ 0 ∷ 0 ∷ 0 ∷ 0x40 ∷ []
unfolding vint_u32 vint_u64 le_bytes packed num_bits entries_in bits_in
row_two = refl

-- counts after a short list
pub row_with_counts : written_postings None WithFreqs (0 ∷ 2 ∷ 10 ∷ []) (1 ∷ 2 ∷ 3 ∷ []) ≡ 0x80 ∷ 0x82 ∷ 0x88 ∷ 0x81 ∷ 0x82 ∷ 0x83 ∷ []
unfolding vint_u32
row_with_counts = refl

-- 128 documents in a row with the count 3, by entries of eight and of twelve bytes
pub row_full_counts : written_postings None WithFreqs (range_with_len 0 128) (replicate 128 3) ≡ 0x88 ∷ 0x7F ∷ 0 ∷ 0 ∷ 0 ∷ 0x40 ∷ 2 ∷ 0 ∷ 0 ∷ replicate 32 0xAA
unfolding vint_u32 vint_u64 le_bytes packed num_bits entries_in bits_in
row_full_counts = refl

pub row_full_sum : written_postings None WithFreqsAndPositions (range_with_len 0 128) (replicate 128 3) ≡ 0x8C ∷ 0x7F ∷ 0 ∷ 0 ∷ 0 ∷ 0x40 ∷ 2 ∷ 0x80 ∷ 1 ∷ 0 ∷ 0 ∷ 0 ∷ 0 ∷ replicate 32 0xAA
unfolding vint_u32 vint_u64 le_bytes packed num_bits entries_in bits_in
row_full_sum = refl

-- with norms the least id and the greatest count, which is at most 255
pub row_bounds : written_postings (Some (record { num_docs = 128; ids = []; constant = Some 20 })) WithFreqs (range_with_len 0 128) (replicate 128 3) ≡ 0x88 ∷ 0x7F ∷ 0 ∷ 0 ∷ 0 ∷ 0x40 ∷ 2 ∷ 0x14 ∷ 3 ∷ replicate 32 0xAA
unfolding vint_u32 vint_u64 le_bytes packed num_bits entries_in bits_in
row_bounds = refl

pub row_bounds_after_sum : written_postings (Some (norms_of_ids (range_with_len 0x14 128))) WithFreqsAndPositions (range_with_len 0 128) (replicate 128 3) ≡ 0x8C ∷ 0x7F ∷ 0 ∷ 0 ∷ 0 ∷ 0x40 ∷ 2 ∷ 0x80 ∷ 1 ∷ 0 ∷ 0 ∷ 0x14 ∷ 3 ∷ replicate 32 0xAA
unfolding vint_u32 vint_u64 le_bytes packed num_bits entries_in bits_in
row_bounds_after_sum = refl

pub row_high_bound : written_postings (Some (record { num_docs = 128; ids = []; constant = Some 0 })) WithFreqs (range_with_len 0 128) (replicate 128 254) ≡ 0x88 ∷ 0x7F ∷ 0 ∷ 0 ∷ 0 ∷ 0x40 ∷ 8 ∷ 0 ∷ 0xFE ∷ replicate 128 0xFD
unfolding vint_u32 vint_u64 le_bytes packed num_bits entries_in bits_in
row_high_bound = refl

pub row_any_bound : term_freq_bound (Some (norms_of_ids [])) (replicate 128 300) ≡ 255
row_any_bound = refl

-- a cut and an equal document
pub row_cut : posting_list Basic Basic 3 (0x80 ∷ 0x82 ∷ []) ≡ Err Documents
unfolding u32_at
row_cut = refl

pub row_equal : posting_list Basic Basic 3 (0x80 ∷ 0x80 ∷ 0x88 ∷ []) ≡ Err Documents
unfolding u32_at
row_equal = refl

-- an entry that names another last document
pub row_last : posting_list Basic Basic 128 (0x85 ∷ 0x80 ∷ 0 ∷ 0 ∷ 0 ∷ 0x40 ∷ []) ≡ Err Documents
unfolding u64_at sorted_block_at unpacked entries_in bits_in entry_at
row_last = refl

-- plain deltas
pub row_plain : posting_list Basic Basic 128 (0x85 ∷ 0x7F ∷ 0 ∷ 0 ∷ 0 ∷ 1 ∷ 0xFE ∷ replicate 15 0xFF) ≡ Ok (map document (range_with_len 0 128))
unfolding u64_at u32_at sorted_block_at unpacked entries_in bits_in entry_at
row_plain = refl

-- more blocks than the skip list has entries for
pub row_many : posting_list Basic Basic 4294967295 (0x85 ∷ 0x7F ∷ 0 ∷ 0 ∷ 0 ∷ 0x40 ∷ []) ≡ Err Skip
unfolding u64_at
row_many = refl

-- entries of eight and of twelve bytes
pub row_freqs : entry_at WithFreqs (1 ∷ 0 ∷ 0 ∷ 0 ∷ 0x42 ∷ 3 ∷ 0x0D ∷ 3 ∷ []) ≡ record { last_doc = 1; strict_delta = true; doc_num_bits = 2; tf_num_bits = 3; tf_sum = 0; block_wand_fieldnorm_id = 13; block_wand_term_freq = 3 }
unfolding entry_at
row_freqs = refl

pub row_long : entry_at WithFreqsAndPositions (0x7F ∷ 0 ∷ 0 ∷ 0 ∷ 0x40 ∷ 2 ∷ 0x80 ∷ 1 ∷ 0 ∷ 0 ∷ 7 ∷ 8 ∷ [])
    ≡ record { last_doc = 127; strict_delta = true; doc_num_bits = 0; tf_num_bits = 2; tf_sum = 384; block_wand_fieldnorm_id = 7; block_wand_term_freq = 8 }
unfolding entry_at
row_long = refl

pub row_walk : reader_at WithFreqs 259 (entries_at WithFreqs 2 (1 ∷ 0 ∷ 0 ∷ 0 ∷ 0x42 ∷ 3 ∷ 0x0D ∷ 3 ∷ 5 ∷ 0 ∷ 0 ∷ 0 ∷ 0x45 ∷ 2 ∷ 8 ∷ 2 ∷ [])) 1
    ≡ record { skip_info = WithFreqs; doc_freq = 259; block = 1; last_doc_in_block = 5; last_doc_in_previous_block = 1; byte_offset = 80; position_offset = 0; block_info = BitPacked 5 true 2 0 8 2; entries_read = 2 }
unfolding entry_at
row_walk = refl

pub row_walk_end : reader_at WithFreqs 259 (entries_at WithFreqs 2 (1 ∷ 0 ∷ 0 ∷ 0 ∷ 0x42 ∷ 3 ∷ 0x0D ∷ 3 ∷ 5 ∷ 0 ∷ 0 ∷ 0 ∷ 0x45 ∷ 2 ∷ 8 ∷ 2 ∷ [])) 2
    ≡ record { skip_info = WithFreqs; doc_freq = 259; block = 2; last_doc_in_block = TERMINATED; last_doc_in_previous_block = 5; byte_offset = 192; position_offset = 0; block_info = VInt 3; entries_read = 2 }
unfolding entry_at
row_walk_end = refl

-- after a block with 384 positions
pub row_walk_positions : reader_at WithFreqsAndPositions 130 (entries_at WithFreqsAndPositions 1 (0x7F ∷ 0 ∷ 0 ∷ 0 ∷ 0x40 ∷ 2 ∷ 0x80 ∷ 1 ∷ 0 ∷ 0 ∷ 0 ∷ 0 ∷ [])) 1
    ≡ record { skip_info = WithFreqsAndPositions; doc_freq = 130; block = 1; last_doc_in_block = TERMINATED; last_doc_in_previous_block = 127; byte_offset = 32; position_offset = 384; block_info = VInt 2; entries_read = 1 }
unfolding entry_at
row_walk_positions = refl

-- a width of counts above 32
pub row_wide : posting_list WithFreqs Basic 128 (0x88 ∷ 0x7F ∷ 0 ∷ 0 ∷ 0 ∷ 0x40 ∷ 0x21 ∷ 0 ∷ 0 ∷ []) ≡ Err Skip
unfolding entry_at u64_at
row_wide = refl

-- counts after a short list, cut, not asked for, and none
pub row_counted : posting_list WithFreqs WithFreqs 3 (0x80 ∷ 0x82 ∷ 0x88 ∷ 0x81 ∷ 0x82 ∷ 0x83 ∷ []) ≡ Ok (counted 0 1 ∷ counted 2 2 ∷ counted 10 3 ∷ [])
unfolding u32_at
row_counted = refl

pub row_count_cut : posting_list WithFreqs WithFreqs 3 (0x80 ∷ 0x82 ∷ 0x88 ∷ 0xFF ∷ []) ≡ Err Frequencies
unfolding u32_at
row_count_cut = refl

pub row_unread : posting_list WithFreqs Basic 3 (0x80 ∷ 0x82 ∷ 0x88 ∷ 0xFF ∷ []) ≡ Ok (map document (0 ∷ 2 ∷ 10 ∷ []))
unfolding u32_at
row_unread = refl

pub row_uncounted : posting_list WithFreqs WithFreqs 3 (0x80 ∷ 0x82 ∷ 0x88 ∷ []) ≡ Ok (map document (0 ∷ 2 ∷ 10 ∷ []))
unfolding u32_at
row_uncounted = refl

pub row_zero : posting_list WithFreqs WithFreqs 1 (0x80 ∷ 0x80 ∷ []) ≡ Ok (counted 0 0 ∷ [])
unfolding u32_at
row_zero = refl

-- 128 documents in a row with the count 3, and one more with the count 4, or with none
pub row_block : posting_list WithFreqs WithFreqs 129 (0x88 ∷ 0x7F ∷ 0 ∷ 0 ∷ 0 ∷ 0x40 ∷ 2 ∷ 0 ∷ 0 ∷ [] ++ replicate 32 0xAA ++ 0x81 ∷ 0x84 ∷ []) ≡ Ok (map (λ d. counted d 3) (range_with_len 0 128) ++ counted 128 4 ∷ [])
unfolding entry_at u64_at u32_at sorted_block_at unsorted_block_at unpacked entries_in bits_in
row_block = refl

pub row_rest_uncounted : posting_list WithFreqs WithFreqs 129 (0x88 ∷ 0x7F ∷ 0 ∷ 0 ∷ 0 ∷ 0x40 ∷ 2 ∷ 0 ∷ 0 ∷ [] ++ replicate 32 0xAA ++ 0x81 ∷ []) ≡ Err Frequencies
unfolding entry_at u64_at u32_at sorted_block_at unsorted_block_at unpacked entries_in bits_in
row_rest_uncounted = refl

-- the sum of a block's counts, and another one
pub row_sum : posting_list WithFreqsAndPositions WithFreqs 128 (0x8C ∷ 0x7F ∷ 0 ∷ 0 ∷ 0 ∷ 0x40 ∷ 2 ∷ 0x80 ∷ 1 ∷ 0 ∷ 0 ∷ 0 ∷ 0 ∷ replicate 32 0xAA) ≡ Ok (map (λ d. counted d 3) (range_with_len 0 128))
unfolding entry_at u64_at u32_at sorted_block_at unsorted_block_at unpacked entries_in bits_in
row_sum = refl

pub row_other_sum : posting_list WithFreqsAndPositions WithFreqs 128 (0x8C ∷ 0x7F ∷ 0 ∷ 0 ∷ 0 ∷ 0x40 ∷ 2 ∷ 0x7F ∷ 1 ∷ 0 ∷ 0 ∷ 0 ∷ 0 ∷ replicate 32 0xAA) ≡ Err Frequencies
unfolding entry_at u64_at u32_at sorted_block_at unsorted_block_at unpacked entries_in bits_in
row_other_sum = refl

pub row_sum_unread : posting_list WithFreqsAndPositions Basic 128 (0x8C ∷ 0x7F ∷ 0 ∷ 0 ∷ 0 ∷ 0x40 ∷ 2 ∷ 0x7F ∷ 1 ∷ 0 ∷ 0 ∷ 0 ∷ 0 ∷ replicate 32 0xAA) ≡ Ok (map document (range_with_len 0 128))
unfolding entry_at u64_at u32_at sorted_block_at unsorted_block_at unpacked entries_in bits_in
row_sum_unread = refl

-- counts of 3 above a bound of 2, which is looked at where they are read, and bounds of 4 and of 255
pub row_above_bound : posting_list WithFreqs WithFreqs 128 (0x88 ∷ 0x7F ∷ 0 ∷ 0 ∷ 0 ∷ 0x40 ∷ 2 ∷ 0 ∷ 2 ∷ replicate 32 0xAA) ≡ Err Frequencies
unfolding entry_at u64_at u32_at sorted_block_at unsorted_block_at unpacked entries_in bits_in
row_above_bound = refl

pub row_bound_unread : posting_list WithFreqs Basic 128 (0x88 ∷ 0x7F ∷ 0 ∷ 0 ∷ 0 ∷ 0x40 ∷ 2 ∷ 0 ∷ 2 ∷ replicate 32 0xAA) ≡ Ok (map document (range_with_len 0 128))
unfolding entry_at u64_at u32_at sorted_block_at unsorted_block_at unpacked entries_in bits_in
row_bound_unread = refl

pub row_bounded : posting_list WithFreqs WithFreqs 128 (0x88 ∷ 0x7F ∷ 0 ∷ 0 ∷ 0 ∷ 0x40 ∷ 2 ∷ 19 ∷ 4 ∷ replicate 32 0xAA) ≡ Ok (map (λ d. counted d 3) (range_with_len 0 128))
unfolding entry_at u64_at u32_at sorted_block_at unsorted_block_at unpacked entries_in bits_in
row_bounded = refl

pub row_no_bound : posting_list WithFreqs WithFreqs 128 (0x88 ∷ 0x7F ∷ 0 ∷ 0 ∷ 0 ∷ 0x40 ∷ 2 ∷ 0 ∷ 255 ∷ replicate 32 0xAA) ≡ Ok (map (λ d. counted d 3) (range_with_len 0 128))
unfolding entry_at u64_at u32_at sorted_block_at unsorted_block_at unpacked entries_in bits_in
row_no_bound = refl

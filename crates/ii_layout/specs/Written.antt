-- The bytes written for a term: its documents, and its frequencies if its entries have them.
use Rattle.std.specs.Prelude.{◌≡◌, ℕ, zero, suc, ◌+◌, ◌*◌, ◌/◌, ◌^◌, ◌<◌, ◌≤◌, true, ◌&&◌, if◌then◌else◌, List, [], ◌∷◌, ◌++◌, take, drop, length, slice_index, IsTrue, Option, Some, None, Ok, map}
use Rattle.std.specs.List.{flat_map, range_with_len, sum}
use Rattle.ii_base.specs.declared.schema.index_record_option.IndexRecordOption.{IndexRecordOption}
use Rattle.ii_base.specs.declared.schema.index_record_option.IndexRecordOption.TheVariants.{Basic, WithFreqs, WithFreqsAndPositions}
use Rattle.ii_base.specs.Options.{has_freq, has_positions}
use Rattle.ii_io.specs.Numbers.{le_bytes}
use Rattle.ii_io.specs.Vints.{vint_u64}
use Rattle.ii_codes.specs.Blocks.{sorted_width, sorted_bytes, unsorted_width, unsorted_bytes}
use Rattle.ii_codes.specs.SortedVints.{sorted_vints}
use Rattle.ii_codes.specs.UnsortedVints.{unsorted_vints}
use Rattle.ii_base.specs.Entries.{document, are_documents}
use Rattle.ii_fieldnorm.specs.Readers.{Norms}
use Rattle.ii_layout.specs.Bounds.{fieldnorm_bound, term_freq_bound}
use Rattle.ii_layout.specs.SkipList.{entry_size}
use Rattle.ii_layout.specs.Postings.{entries_of, posting_list}

-- the documents of block i, or their term frequencies
abbrev pub block_of : List ℕ → ℕ → List ℕ
block_of docs i = take 128 (drop (128 * i) docs)

-- the last document before block i, or 0 if there is none
abbrev pub last_before : List ℕ → ℕ → ℕ
last_before docs zero = 0
last_before docs (suc i) = slice_index docs (128 * i + 127)

-- the code of a width, with strict deltas
abbrev pub code_of_width : ℕ → ℕ
code_of_width width = 64 + width

-- the part of a skip entry about the documents of a block after a last document
abbrev pub entry_of_block : ℕ → List ℕ → List ℕ
entry_of_block last block = le_bytes 4 (slice_index block 127) ++ code_of_width (sorted_width last block) ∷ []

-- the two bytes of a block's bounds
abbrev pub bound_bytes : Option Norms → List ℕ → List ℕ → List ℕ
bound_bytes norms docs freqs = fieldnorm_bound norms docs ∷ term_freq_bound norms freqs ∷ []

-- the part about frequencies, by the option: the width of the frequencies, their sum, and the bounds
abbrev pub freq_part : Option Norms → IndexRecordOption → List ℕ → List ℕ → List ℕ
freq_part norms Basic docs freqs = []
freq_part norms WithFreqs docs freqs = unsorted_width true freqs ∷ bound_bytes norms docs freqs
freq_part norms WithFreqsAndPositions docs freqs = unsorted_width true freqs ∷ (le_bytes 4 (sum freqs) ++ bound_bytes norms docs freqs)

-- the term frequencies of a full block, if the option has them
abbrev pub packed_freqs : IndexRecordOption → List ℕ → List ℕ
packed_freqs skip_info freqs = if has_freq skip_info then unsorted_bytes true freqs else []

-- the term frequencies of the documents after the full blocks
abbrev pub rest_freqs : IndexRecordOption → List ℕ → List ℕ
rest_freqs skip_info freqs = if has_freq skip_info then unsorted_vints freqs else []

-- the documents after the full blocks, and their term frequencies
abbrev pub rest_bytes : IndexRecordOption → ℕ → List ℕ → List ℕ → List ℕ
rest_bytes skip_info last docs freqs = sorted_vints last docs ++ rest_freqs skip_info freqs

-- the skip entry of block i
abbrev pub entry_bytes : Option Norms → IndexRecordOption → List ℕ → List ℕ → ℕ → List ℕ
entry_bytes norms skip_info docs freqs i = entry_of_block (last_before docs i) (block_of docs i) ++ freq_part norms skip_info (block_of docs i) (block_of freqs i)

-- the bytes of block i: its documents, then its term frequencies
abbrev pub block_bytes : IndexRecordOption → List ℕ → List ℕ → ℕ → List ℕ
block_bytes skip_info docs freqs i = sorted_bytes (last_before docs i) (block_of docs i) ++ packed_freqs skip_info (block_of freqs i)

-- the skip list of a number of blocks: its length in bytes, and its entries
abbrev pub skip_bytes : Option Norms → IndexRecordOption → List ℕ → List ℕ → ℕ → List ℕ
skip_bytes norms skip_info docs freqs zero = []
skip_bytes norms skip_info docs freqs (suc more) = vint_u64 (entry_size skip_info * suc more) ++ flat_map (entry_bytes norms skip_info docs freqs) (range_with_len 0 (suc more))

-- the only written form of a term: skip list, full blocks in least widths, the remainder in shortest vints
abbrev pub written_postings : Option Norms → IndexRecordOption → List ℕ → List ℕ → List ℕ
written_postings norms skip_info docs freqs =
    let blocks = length docs / 128 in
    skip_bytes norms skip_info docs freqs blocks
    ++ flat_map (block_bytes skip_info docs freqs) (range_with_len 0 blocks)
    ++ rest_bytes skip_info (last_before docs blocks) (drop (128 * blocks) docs) (drop (128 * blocks) freqs)

-- a term written without term frequencies
abbrev pub written_documents : List ℕ → List ℕ
written_documents docs = written_postings None Basic docs []

-- Frequencies that may be written: one per document, from 1 to 32 bits, and block sums of 32 bits where kept.
pub record AreFreqs (recorded : IndexRecordOption) (docs freqs : List ℕ) : Type 0 where
  pub many : length freqs ≡ length docs
  pub some : (k : ℕ) → k < length freqs → 0 < slice_index freqs k
  pub fit : (k : ℕ) → k < length freqs → slice_index freqs k < 2 ^ 32
  pub sums : IsTrue (has_positions recorded) → (i : ℕ) → 128 * i + 128 ≤ length freqs → sum (block_of freqs i) < 2 ^ 32

-- the term frequencies if they are recorded and requested
abbrev pub freqs_read : IndexRecordOption → IndexRecordOption → List ℕ → Option (List ℕ)
freqs_read recorded requested freqs = if has_freq requested && has_freq recorded then Some freqs else None

-- Written postings read back as their list for each requested option, whatever follows.
abbrev pub ReadsPostingsBack : Type 0
ReadsPostingsBack =
    (norms : Option Norms) (recorded requested : IndexRecordOption) (docs freqs rest : List ℕ) → IsTrue (are_documents docs) → length docs < 2 ^ 32
    → (IsTrue (has_freq recorded) → AreFreqs recorded docs freqs)
    → posting_list recorded requested (length docs) (written_postings norms recorded docs freqs ++ rest) ≡ Ok (entries_of docs (freqs_read recorded requested freqs))

-- A term written without frequencies reads back as its documents, whatever is recorded, if nothing follows.
abbrev pub ReadsUncountedBack : Type 0
ReadsUncountedBack =
    (norms : Option Norms) (recorded requested : IndexRecordOption) (docs freqs : List ℕ) → IsTrue (are_documents docs) → length docs < 2 ^ 32
    → posting_list recorded requested (length docs) (written_postings norms Basic docs freqs) ≡ Ok (map document docs)

-- Written documents read back, whatever follows.
abbrev pub ReadsDocumentsBack : Type 0
ReadsDocumentsBack = (docs rest : List ℕ) → IsTrue (are_documents docs) → length docs < 2 ^ 32 → posting_list Basic Basic (length docs) (written_documents docs ++ rest) ≡ Ok (map document docs)

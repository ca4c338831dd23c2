-- What is kept about each full block apart from it, so that a reader can skip the block.
use Rattle.std.specs.Prelude.{◌≡◌, ◌≤◌, ℕ, zero, suc, ◌+◌, ◌*◌, ◌/◌, ◌%◌, Bool, List, [], length, take, drop, map, slice_index, nat_lt, nat_le, ◌==◌, if◌then◌else◌, Option, Some}
use Rattle.std.specs.List.{sum_by, list_all, range_with_len}
use Rattle.ii_base.specs.declared.schema.index_record_option.IndexRecordOption.{IndexRecordOption}
use Rattle.ii_base.specs.declared.schema.index_record_option.IndexRecordOption.TheVariants.{Basic, WithFreqs, WithFreqsAndPositions}
use Rattle.ii_io.specs.Steps.{◌>>=◌, needs}
use Rattle.ii_io.specs.Numbers.{little_endian}
use Rattle.ii_io.specs.Vints.{u64_at}

-- An entry; a number that is missing is 0.
pub record SkipEntry : Type 0 where
  pub last_doc : ℕ
  pub strict_delta : Bool
  pub doc_num_bits : ℕ
  pub tf_num_bits : ℕ
  pub tf_sum : ℕ
  pub block_wand_fieldnorm_id : ℕ
  pub block_wand_term_freq : ℕ

-- the size of an entry in bytes
abbrev pub entry_size : IndexRecordOption → ℕ
entry_size Basic = 5
entry_size WithFreqs = 8
entry_size WithFreqsAndPositions = 12

-- the number of a given size in bytes at a place
abbrev pub number_from : ℕ → ℕ → List ℕ → ℕ
number_from place size bytes = little_endian (take size (drop place bytes))

-- the width in the lowest five bits of a code
abbrev pub width_of_code : ℕ → ℕ
width_of_code code = code % 32

-- whether bit 6 of a code says that deltas are strict
abbrev pub strict_of_code : ℕ → Bool
strict_of_code code = code / 64 % 2 == 1

-- the entry at the front of the bytes
unfoldable pub entry_at : IndexRecordOption → List ℕ → SkipEntry
entry_at Basic bytes =
    record {
      last_doc = number_from 0 4 bytes;
      strict_delta = strict_of_code (slice_index bytes 4);
      doc_num_bits = width_of_code (slice_index bytes 4);
      tf_num_bits = 0;
      tf_sum = 0;
      block_wand_fieldnorm_id = 0;
      block_wand_term_freq = 0;
    }
entry_at WithFreqs bytes =
    record {
      last_doc = number_from 0 4 bytes;
      strict_delta = strict_of_code (slice_index bytes 4);
      doc_num_bits = width_of_code (slice_index bytes 4);
      tf_num_bits = slice_index bytes 5;
      tf_sum = 0;
      block_wand_fieldnorm_id = slice_index bytes 6;
      block_wand_term_freq = slice_index bytes 7;
    }
entry_at WithFreqsAndPositions bytes =
    record {
      last_doc = number_from 0 4 bytes;
      strict_delta = strict_of_code (slice_index bytes 4);
      doc_num_bits = width_of_code (slice_index bytes 4);
      tf_num_bits = slice_index bytes 5;
      tf_sum = number_from 6 4 bytes;
      block_wand_fieldnorm_id = slice_index bytes 10;
      block_wand_term_freq = slice_index bytes 11;
    }

-- the entries of a number of blocks, one after the other
abbrev pub entries_at : IndexRecordOption → ℕ → List ℕ → List SkipEntry
entries_at skip_info blocks bytes = map (λ i. entry_at skip_info (drop (entry_size skip_info * i) bytes)) (range_with_len 0 blocks)

-- A term's skip list: the shape of its entries, the entries, and the bytes after them.
pub record SkipList : Type 0 where
  pub skip_info : IndexRecordOption
  pub entries : List SkipEntry
  pub body : List ℕ

-- the shape of the entries: `Basic` if the list is too short for term frequencies
abbrev pub skip_info_of : IndexRecordOption → ℕ → ℕ → IndexRecordOption
skip_info_of recorded blocks len = if nat_lt len (8 * blocks) then Basic else recorded

-- the skip list of a term by its number of full blocks; a term with none has no skip list
abbrev pub skip_list : IndexRecordOption → ℕ → List ℕ → Option SkipList
skip_list recorded zero bytes = Some (record { skip_info = recorded; entries = []; body = bytes })
skip_list recorded (suc more) bytes = do
  len ← u64_at bytes
  let skip_info = skip_info_of recorded (suc more) len.0
  _ ← needs (nat_le len.0 (length len.1))
  _ ← needs (nat_le (entry_size skip_info * suc more) len.0)
  _ ← needs (list_all (λ (e : SkipEntry). nat_le e.tf_num_bits 32) (entries_at skip_info (suc more) len.1))
  Some (record { skip_info = skip_info; entries = entries_at skip_info (suc more) len.1; body = drop len.0 len.1 })

-- the entry used where there is none
abbrev pub no_entry : SkipEntry
no_entry = record { last_doc = 0; strict_delta = strict_of_code 0; doc_num_bits = 0; tf_num_bits = 0; tf_sum = 0; block_wand_fieldnorm_id = 0; block_wand_term_freq = 0 }

-- the size of a block in bytes
abbrev pub block_size : SkipEntry → ℕ
block_size e = 16 * (e.doc_num_bits + e.tf_num_bits)

-- the place of block i in the body: the size of all blocks before it
abbrev pub block_place : List SkipEntry → ℕ → ℕ
block_place entries i = sum_by block_size (take i entries)

-- the sum of the term frequencies of all blocks before block i, if entries hold sums
abbrev pub tf_sum_before : List SkipEntry → ℕ → ℕ
tf_sum_before entries i = sum_by (λ (e : SkipEntry). e.tf_sum) (take i entries)

-- the skip list whose entries and body begin at these places
abbrev pub skip_list_at : IndexRecordOption → ℕ → List ℕ → ℕ → ℕ → SkipList
skip_list_at skip_info blocks bytes entries body = record { skip_info = skip_info; entries = entries_at skip_info blocks (drop entries bytes); body = drop body bytes }

-- A term's skip list is at these places in its bytes.
pub record IsSplit (recorded : IndexRecordOption) (blocks : ℕ) (bytes : List ℕ) (skip_info : IndexRecordOption) (entries body : ℕ) : Type 0 where
  pub skip : skip_list recorded blocks bytes ≡ Some (skip_list_at skip_info blocks bytes entries body)
  pub room : entries + entry_size skip_info * blocks ≤ length bytes
  pub within : body ≤ length bytes

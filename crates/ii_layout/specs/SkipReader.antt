-- The state of a reader of a term's skip list, and what it returns about its block.
use Rattle.std.specs.Prelude.{ℕ, ◌+◌, ◌-◌, ◌*◌, ◌/◌, ◌%◌, ◌^◌, ◌<◌, ◌≤◌, List, min, max, nat_lt, nat_le, ◌==◌, if◌then◌else◌}
use Rattle.ii_base.specs.declared.schema.index_record_option.IndexRecordOption.{IndexRecordOption}
use Rattle.ii_base.specs.declared.doc_id.TheConstants.{TERMINATED}
use Rattle.ii_layout.specs.declared.skip.BlockInfo.{BlockInfo}
use Rattle.ii_layout.specs.declared.skip.BlockInfo.TheVariants.{BitPacked, VInt}
use Rattle.ii_layout.specs.SkipList.{SkipEntry, block_place, tf_sum_before}
use Rattle.ii_layout.specs.Documents.{skip_entry, last_doc_before}

-- the term frequency of a bound's byte; 255 means any
abbrev pub max_tf_of_code : ℕ → ℕ
max_tf_of_code code = if code == 255 then 2 ^ 32 - 1 else code

-- the byte that encodes a term frequency
abbrev pub code_of_max_tf : ℕ → ℕ
code_of_max_tf max_tf = min max_tf 255

-- what an entry holds about its block
abbrev pub block_info_of : SkipEntry → BlockInfo
block_info_of e = BitPacked e.doc_num_bits e.strict_delta e.tf_num_bits e.tf_sum e.block_wand_fieldnorm_id (max_tf_of_code e.block_wand_term_freq)

-- the size of a full block in bytes
abbrev pub packed_size_of : BlockInfo → ℕ
packed_size_of (BitPacked doc_num_bits strict_delta tf_num_bits tf_sum norm term_freq) = 16 * (doc_num_bits + tf_num_bits)
packed_size_of (VInt n) = 0

-- the width of a block's term frequencies
abbrev pub tf_num_bits_of : BlockInfo → ℕ
tf_num_bits_of (BitPacked doc_num_bits strict_delta tf_num_bits tf_sum norm term_freq) = tf_num_bits
tf_num_bits_of (VInt n) = 0

-- the sum of a block's term frequencies
abbrev pub tf_sum_of : BlockInfo → ℕ
tf_sum_of (BitPacked doc_num_bits strict_delta tf_num_bits tf_sum norm term_freq) = tf_sum
tf_sum_of (VInt n) = 0

pub record SkipReaderState : Type 0 where
  pub skip_info : IndexRecordOption
  pub doc_freq : ℕ
  pub block : ℕ
  pub last_doc_in_block : ℕ
  pub last_doc_in_previous_block : ℕ
  pub byte_offset : ℕ
  pub position_offset : ℕ
  pub block_info : BlockInfo
  pub entries_read : ℕ

-- A reader at block i that has read each entry up to it once. Vints follow the full blocks, and then nothing.
abbrev pub reader_at : IndexRecordOption → ℕ → List SkipEntry → ℕ → SkipReaderState
reader_at skip_info doc_freq entries i =
    let blocks = doc_freq / 128 in
    record {
      skip_info = skip_info;
      doc_freq = doc_freq;
      block = i;
      last_doc_in_block = if nat_lt i blocks then (skip_entry entries i).last_doc else TERMINATED;
      last_doc_in_previous_block = if nat_le i blocks then last_doc_before entries i else TERMINATED;
      byte_offset = if nat_le i blocks then block_place entries i else 2 ^ 64 - 1;
      position_offset = tf_sum_before entries i;
      block_info = if nat_lt i blocks then block_info_of (skip_entry entries i) else VInt (if i == blocks then doc_freq % 128 else 0);
      entries_read = min (i + 1) blocks;
    }

-- A seek from block i to the first block that reaches the target, or to the vints; from there on it stays.
pub record Seeks (target blocks : ℕ) (entries : List SkipEntry) (i k : ℕ) : Type 0 where
  pub forward : i ≤ k
  pub within : k ≤ max i blocks
  pub passed : (j : ℕ) → i ≤ j → j < k → (skip_entry entries j).last_doc < target
  pub found : k < blocks → target ≤ (skip_entry entries k).last_doc

-- What the check asks of the bytes of a block, and what a decoder holds of a row.
use Rattle.std.specs.Prelude.{◌≡◌, ℕ, ◌+◌, ◌-◌, ◌*◌, Bool, false, not, nat_lt, ◌&&◌, ◌==◌, List, length, take, drop, replicate, slice_index, Option, Some, None}
use Rattle.ii_io.specs.Steps.{◌>>=◌, needs}
use Rattle.ii_io.specs.Vints.{u32s_at}
use Rattle.ii_base.specs.declared.schema.index_record_option.IndexRecordOption.{IndexRecordOption}
use Rattle.ii_base.specs.Entries.{ascend_from}
use Rattle.ii_codes.specs.Blocks.{sorted_block_at, unsorted_block_at}
use Rattle.ii_codes.specs.BlockDecoder.{BlockDecoderState, decodes_of}
use Rattle.ii_codes.specs.SortedVints.{sorted_vints_at}
use Rattle.ii_layout.specs.declared.skip.BlockInfo.{BlockInfo}
use Rattle.ii_layout.specs.declared.skip.BlockInfo.TheVariants.{BitPacked, VInt}
use Rattle.ii_layout.specs.Frequencies.{bounds_counts, has_sum}
use Rattle.ii_layout.specs.SkipList.{SkipList, entries_at}

-- the skip list with the entries at the front of these bytes, and its body
abbrev pub skip_list_of : IndexRecordOption → ℕ → List ℕ → List ℕ → SkipList
skip_list_of skip_info blocks skip_data body = record { skip_info = skip_info; entries = entries_at skip_info blocks skip_data; body = body }

-- whether documents pass a test; missing documents don't
abbrev pub fits_by : (List ℕ → Bool) → Option (List ℕ × List ℕ) → Bool
fits_by test None = false
fits_by test (Some found) = test found.0

-- whether bytes begin with a block that ends with a last document and ascends from a least one on
abbrev pub block_fits : BlockInfo → ℕ → ℕ → ℕ → List ℕ → Bool
block_fits (BitPacked doc_num_bits strict_delta tf_num_bits tf_sum norm term_freq) before last_doc least bytes =
    fits_by (λ docs. slice_index docs 127 == last_doc && ascend_from least docs) (sorted_block_at strict_delta before doc_num_bits bytes)
block_fits (VInt n) before last_doc least bytes = false

-- the bytes after a number of documents in vints, which ascend from a least one on
abbrev pub after_rest : ℕ → ℕ → ℕ → List ℕ → Option (List ℕ)
after_rest before n least bytes = do
  found ← sorted_vints_at before n bytes
  _ ← needs (ascend_from least found.0)
  Some found.1

-- the documents of a block by its block info, and the bytes after them
abbrev pub docs_in : BlockInfo → ℕ → List ℕ → Option (List ℕ × List ℕ)
docs_in (BitPacked doc_num_bits strict_delta tf_num_bits tf_sum norm term_freq) before bytes = sorted_block_at strict_delta before doc_num_bits bytes
docs_in (VInt n) before bytes = sorted_vints_at before n bytes

-- the term frequencies of a block, from the bytes after its documents
abbrev pub freqs_in : BlockInfo → List ℕ → Option (List ℕ × List ℕ)
freqs_in (BitPacked doc_num_bits strict_delta tf_num_bits tf_sum norm term_freq) bytes = unsorted_block_at strict_delta tf_num_bits bytes
freqs_in (VInt n) bytes = u32s_at n bytes

-- the term frequencies of a full block, with the sum and within the bound of its block info
abbrev pub block_freqs_in : IndexRecordOption → BlockInfo → List ℕ → Option (List ℕ)
block_freqs_in skip_info (BitPacked doc_num_bits strict_delta tf_num_bits tf_sum norm term_freq) bytes = do
  found ← unsorted_block_at strict_delta tf_num_bits (drop (16 * doc_num_bits) bytes)
  _ ← needs (has_sum skip_info tf_sum found.0)
  _ ← needs (bounds_counts term_freq found.0)
  Some found.0
block_freqs_in skip_info (VInt n) bytes = None

-- whether a block info excludes term frequencies of at least `least`
abbrev pub excludes_in : ℕ → BlockInfo → Bool
excludes_in least (BitPacked doc_num_bits strict_delta tf_num_bits tf_sum norm term_freq) = not (term_freq == 0) && nat_lt term_freq least
excludes_in least (VInt n) = false

-- the number of documents of a block that isn't full
abbrev pub num_vints : BlockInfo → ℕ
num_vints (BitPacked doc_num_bits strict_delta tf_num_bits tf_sum norm term_freq) = 0
num_vints (VInt n) = n

-- A decoder read a row of values and holds them, followed by a padding.
pub record HoldsRow (row : Option (List ℕ × List ℕ)) (padding : ℕ) (old new : BlockDecoderState) : Type 0 where
  pub after : List ℕ
  pub read : row ≡ Some (take new.output_len new.output, after)
  pub many : new.output_len ≡ length (take new.output_len new.output)
  pub filled : drop new.output_len new.output ≡ replicate (128 - new.output_len) padding
  pub decodes : new.decodes ≡ old.decodes + decodes_of new.output_len

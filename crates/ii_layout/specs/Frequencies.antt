-- The term frequencies, after the documents of each full block and after the last documents.
use Rattle.std.specs.Prelude.{ℕ, ◌*◌, Bool, true, false, ◌&&◌, ◌||◌, List, ◌++◌, drop, length, nat_lt, nat_le, ◌==◌, Option, None, Some}
use Rattle.std.specs.List.{concat, list_all, sum}
use Rattle.ii_io.specs.Steps.{◌>>=◌, needs}
use Rattle.ii_io.specs.Vints.{u32s_at}
use Rattle.ii_base.specs.declared.schema.index_record_option.IndexRecordOption.{IndexRecordOption}
use Rattle.ii_base.specs.declared.schema.index_record_option.IndexRecordOption.TheVariants.{Basic, WithFreqs, WithFreqsAndPositions}
use Rattle.ii_base.specs.Options.{has_freq}
use Rattle.ii_codes.specs.Blocks.{unsorted_block_at}
use Rattle.ii_layout.specs.Each.{each}
use Rattle.ii_layout.specs.SkipList.{SkipList, block_place}
use Rattle.ii_layout.specs.SkipReader.{max_tf_of_code}
use Rattle.ii_layout.specs.Documents.{skip_entry}

-- whether term frequencies have the sum in a block's entry, if entries hold sums
abbrev pub has_sum : IndexRecordOption → ℕ → List ℕ → Bool
has_sum Basic tf_sum freqs = true
has_sum WithFreqs tf_sum freqs = true
has_sum WithFreqsAndPositions tf_sum freqs = sum freqs == tf_sum

-- whether no term frequency is above a bound; a bound of 0 means there is none
abbrev pub bounds_counts : ℕ → List ℕ → Bool
bounds_counts bound freqs = bound == 0 || list_all (λ c. nat_le c bound) freqs

-- the term frequencies of block i, after its documents, with the sum and within the bound of its entry
abbrev pub block_freqs : SkipList → ℕ → Option (List ℕ)
block_freqs skip i = do
  let e = skip_entry skip.entries i
  found ← unsorted_block_at e.strict_delta e.tf_num_bits (drop (16 * e.doc_num_bits) (drop (block_place skip.entries i) skip.body))
  _ ← needs (has_sum skip.skip_info e.tf_sum found.0)
  _ ← needs (bounds_counts (max_tf_of_code e.block_wand_term_freq) found.0)
  Some found.0

-- all term frequencies, including those of the n last documents
abbrev pub freqs_at : SkipList → ℕ → List ℕ → Option (List ℕ)
freqs_at skip n after = do
  blocks ← each (block_freqs skip) (length skip.entries)
  rest ← u32s_at n after
  Some (concat blocks ++ rest.0)

-- A term has frequencies: its entries hold them, or it has no entries and bytes follow the documents.
abbrev pub has_freqs : SkipList → List ℕ → Bool
has_freqs skip after = has_freq skip.skip_info && (nat_lt 0 (length skip.entries) || nat_lt 0 (length after))

-- the term frequencies if they are read
abbrev pub freqs_if : Bool → SkipList → ℕ → List ℕ → Option (Option (List ℕ))
freqs_if false skip n after = Some None
freqs_if true skip n after = do
  freqs ← freqs_at skip n after
  Some (Some freqs)

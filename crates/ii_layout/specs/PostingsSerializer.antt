-- A serializer of postings: the documents and term frequencies of the open term, and what is kept of them.
use Rattle.std.specs.Prelude.{◌≡◌, ℕ, ◌-◌, ◌/◌, ◌%◌, ◌^◌, ◌<◌, ◌≤◌, ◌↔◌, ◌⊎◌, Bool, List, [], ◌∷◌, ◌++◌, length, drop, slice_index, Result, Option, IsTrue, OnOk, OnErr, IfErr, IsErrOf}
use Rattle.std.specs.List.{flat_map, range_with_len, sum}
use Rattle.std.specs.List.Sorted.{IsStrictlyIncreasing}
use Rattle.ii_base.specs.declared.schema.index_record_option.IndexRecordOption.{IndexRecordOption}
use Rattle.ii_base.specs.Options.{has_freq, has_positions}
use Rattle.ii_io.specs.Vints.{vint_u64}
use Rattle.ii_io.specs.declared.faults.Fault.{Fault}
use Rattle.ii_io.specs.declared.faults.Fault.TheVariants.{OutOfMemory, Limit}
use Rattle.ii_io.specs.declared.faults.LimitName.TheVariants.{BlockFrequencySum}
use Rattle.ii_layout.specs.Written.{last_before, entry_of_block, freq_part, packed_freqs, entry_bytes, block_bytes, written_postings}
use Rattle.ii_codes.specs.Blocks.{sorted_bytes}
use Rattle.ii_fieldnorm.specs.Readers.{Norms}

-- Norms and option of the field, shape of entries, documents and frequencies so far, whether a call failed.
pub record PostingsSerializerState : Type 0 where
  pub norms : Option Norms
  pub mode : IndexRecordOption
  pub skip_info : IndexRecordOption
  pub docs : List ℕ
  pub freqs : List ℕ
  pub closed : Bool

-- The same of the open term alone.
pub record OpenPostingsState : Type 0 where
  pub norms : Option Norms
  pub mode : IndexRecordOption
  pub skip_info : IndexRecordOption
  pub docs : List ℕ
  pub freqs : List ℕ

-- The last document fills a block whose sum of term frequencies is kept and exceeds 32 bits.
pub record IsSumTooLarge (skip_info : IndexRecordOption) (freqs : List ℕ) : Type 0 where
  pub kept : IsTrue (has_positions skip_info)
  pub whole : length freqs % 128 ≡ 0
  pub large : 2 ^ 32 ≤ sum (drop (length freqs - 128) freqs)

-- Documents and their term frequencies.
pub record CountedDocs : Type 0 where
  pub docs : List ℕ
  pub freqs : List ℕ

-- no documents
abbrev pub no_docs : CountedDocs
no_docs = record { docs = []; freqs = [] }

-- one document with its term frequency
abbrev pub one_doc : ℕ → ℕ → CountedDocs
one_doc doc term_freq = record { docs = doc ∷ []; freqs = term_freq ∷ [] }

-- documents, and others after them
abbrev pub joined : CountedDocs → CountedDocs → CountedDocs
joined a b = record { docs = a.docs ++ b.docs; freqs = a.freqs ++ b.freqs }

-- the bytes that are written for documents
abbrev pub written_docs : Option Norms → IndexRecordOption → CountedDocs → List ℕ
written_docs norms skip_info term = written_postings norms skip_info term.docs term.freqs

-- The norms of the field, the shape of entries, and the documents.
pub record PackedBlocksState : Type 0 where
  pub norms : Option Norms
  pub skip_info : IndexRecordOption
  pub term : CountedDocs

-- What is kept of full blocks: the last document, or 0, the skip entries and the bytes.
pub record KeptBlocks : Type 0 where
  pub last_doc : ℕ
  pub skip : List ℕ
  pub postings : List ℕ

-- what a serializer keeps of the full blocks of documents
abbrev pub kept_of : Option Norms → IndexRecordOption → CountedDocs → KeptBlocks
kept_of norms skip_info term =
    let blocks = length term.docs / 128 in
    record {
      last_doc = last_before term.docs blocks;
      skip = flat_map (entry_bytes norms skip_info term.docs term.freqs) (range_with_len 0 blocks);
      postings = flat_map (block_bytes skip_info term.docs term.freqs) (range_with_len 0 blocks);
    }

-- what it keeps with one more block
abbrev pub kept_more : Option Norms → IndexRecordOption → KeptBlocks → CountedDocs → KeptBlocks
kept_more norms skip_info kept block =
    record {
      last_doc = slice_index block.docs 127;
      skip = kept.skip ++ (entry_of_block kept.last_doc block.docs ++ freq_part norms skip_info block.docs block.freqs);
      postings = kept.postings ++ (sorted_bytes kept.last_doc block.docs ++ packed_freqs skip_info block.freqs);
    }

-- The documents fill complete blocks, each document with a term frequency.
pub record AreWhole (term : CountedDocs) : Type 0 where
  pub whole : length term.docs % 128 ≡ 0
  pub even : length term.freqs ≡ length term.docs

-- The documents fill complete blocks, which are kept as these bytes.
pub record ArePacked (norms : Option Norms) (skip_info : IndexRecordOption) (term : CountedDocs) (kept : KeptBlocks) : Type 0 where
  pub whole : AreWhole term
  pub kept_is : kept ≡ kept_of norms skip_info term

-- No term frequency is 0, if the option has frequencies.
abbrev pub ArePositive : IndexRecordOption → List ℕ → Type 0
ArePositive skip_info freqs = IsTrue (has_freq skip_info) → (k : ℕ) → k < length freqs → 0 < slice_index freqs k

-- A block that isn't full yet.
pub record IsOpenBlock (skip_info : IndexRecordOption) (block : CountedDocs) : Type 0 where
  pub few : length block.docs < 128
  pub even : length block.freqs ≡ length block.docs
  pub positive : ArePositive skip_info block.freqs

-- The documents of a block that may be packed after a last document, or after 0 if there is none.
pub record IsFullBlock (last : ℕ) (block : List ℕ) : Type 0 where
  pub many : length block ≡ 128
  pub ascending : IsStrictlyIncreasing block
  pub after : 0 < last → last < slice_index block 0
  pub low : (k : ℕ) → k < 128 → slice_index block k < 2 ^ 31

-- The term frequencies of a block that may be packed.
pub record AreBlockFreqs (skip_info : IndexRecordOption) (freqs : List ℕ) : Type 0 where
  pub many : length freqs ≡ 128
  pub positive : ArePositive skip_info freqs
  pub small : IsTrue (has_positions skip_info) → sum freqs < 2 ^ 32

-- the number of bytes and the bytes, or nothing if there are none
abbrev pub sized : List ℕ → List ℕ
sized [] = []
sized (b ∷ bs) = vint_u64 (length (b ∷ bs)) ++ b ∷ bs

-- The outcomes of adding documents: an allocation failure or a sum that is too large drops all of them.
pub record AddsDocs (skip_info : IndexRecordOption) (old new added : CountedDocs) (result : Result (Unit {0}) Fault) : Type 0 where
  pub ok : OnOk result (new ≡ joined old added)
  pub err : OnErr result (new ≡ no_docs)
  pub limit : IsErrOf result (Limit BlockFrequencySum) ↔ IsSumTooLarge skip_info (old.freqs ++ added.freqs)
  pub only : IfErr result (λ e. (e ≡ OutOfMemory) ⊎ (e ≡ Limit BlockFrequencySum))

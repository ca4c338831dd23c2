-- What the written bounds of a term say about its blocks.
use Rattle.std.specs.Prelude.{◌≡◌, ℕ, ◌/◌, ◌^◌, ◌<◌, ◌≤◌, ◌⊎◌, IsTrue, List, ◌++◌, length, map, slice_index, Option, Some, None, Ok}
use Rattle.ii_base.specs.declared.schema.index_record_option.IndexRecordOption.{IndexRecordOption}
use Rattle.ii_base.specs.declared.schema.index_record_option.IndexRecordOption.TheVariants.{Basic, WithFreqs}
use Rattle.ii_base.specs.Entries.{are_documents}
use Rattle.ii_base.specs.Options.{has_freq}
use Rattle.ii_fieldnorm.specs.Readers.{Norms, id_of_doc}
use Rattle.ii_layout.specs.Bounds.{greatest, least}
use Rattle.ii_layout.specs.Documents.{skip_entry}
use Rattle.ii_layout.specs.SkipList.{SkipEntry, SkipList, skip_list}
use Rattle.ii_layout.specs.SkipReader.{code_of_max_tf, max_tf_of_code}
use Rattle.ii_layout.specs.TermList.{docs_and_freqs}
use Rattle.ii_layout.specs.Written.{AreFreqs, block_of, written_postings}

-- An entry holds the least norm id and the greatest term frequency of a block, which bound each document.
pub record BoundsBlock (norms : Norms) (e : SkipEntry) (docs freqs : List ℕ) : Type 0 where
  pub fieldnorm_id : e.block_wand_fieldnorm_id ≡ least (map (id_of_doc norms) docs)
  pub term_freq : e.block_wand_term_freq ≡ code_of_max_tf (greatest freqs)
  pub not_above : (k : ℕ) → k < length docs → e.block_wand_fieldnorm_id ≤ id_of_doc norms (slice_index docs k)
  pub not_below : (k : ℕ) → k < length freqs → slice_index freqs k ≤ max_tf_of_code e.block_wand_term_freq

-- The law: each entry written with norms bounds its block.
abbrev pub BoundsWhatIsWritten : Type 0
BoundsWhatIsWritten =
    (norms : Norms) (recorded : IndexRecordOption) (docs freqs rest : List ℕ) (skip : SkipList) → IsTrue (are_documents docs) → length docs < 2 ^ 32
    → IsTrue (has_freq recorded) → AreFreqs recorded docs freqs
    → skip_list recorded (length docs / 128) (written_postings (Some norms) recorded docs freqs ++ rest) ≡ Some skip
    → (i : ℕ) → i < length docs / 128 → BoundsBlock norms (skip_entry skip.entries i) (block_of docs i) (block_of freqs i)

-- The law: no length depends on bounds.
abbrev pub BoundsTakeNoRoom : Type 0
BoundsTakeNoRoom =
    (norms : Option Norms) (skip_info : IndexRecordOption) (docs freqs : List ℕ) → length (written_postings norms skip_info docs freqs) ≡ length (written_postings None skip_info docs freqs)

-- The law: a term without frequencies has no bounds.
abbrev pub PlainTermsHaveNoBounds : Type 0
PlainTermsHaveNoBounds = (norms : Option Norms) (docs freqs : List ℕ) → written_postings norms Basic docs freqs ≡ written_postings None Basic docs freqs

-- The bounds of a term are true: if its frequencies can be read, the entry of each full block bounds the block.
pub record HasTrueBounds (norms : Norms) (recorded : IndexRecordOption) (doc_freq : ℕ) (bytes : List ℕ) : Type 0 where
  pub each : (docs freqs : List ℕ) (skip : SkipList) → docs_and_freqs recorded WithFreqs doc_freq bytes ≡ Ok (docs, Some freqs) → skip_list recorded (doc_freq / 128) bytes ≡ Some skip
      → (i : ℕ) → i < doc_freq / 128 → BoundsBlock norms (skip_entry skip.entries i) (block_of docs i) (block_of freqs i)

-- The law: a term written with norms has true bounds, with entries as its field records them or without frequencies.
abbrev pub BoundsWrittenTerms : Type 0
BoundsWrittenTerms =
    (norms : Norms) (recorded skip_info : IndexRecordOption) (docs freqs : List ℕ) → (skip_info ≡ recorded) ⊎ (skip_info ≡ Basic) → IsTrue (are_documents docs) → length docs < 2 ^ 32
    → (IsTrue (has_freq skip_info) → AreFreqs skip_info docs freqs) → HasTrueBounds norms recorded (length docs) (written_postings (Some norms) skip_info docs freqs)

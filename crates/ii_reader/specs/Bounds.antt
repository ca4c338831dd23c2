-- The bounds of a term's blocks, and what a seek by term frequency uses.
use Rattle.std.specs.Prelude.{◌≡◌, ℕ, ◌+◌, ◌-◌, ◌*◌, ◌/◌, ◌<◌, ◌≤◌, Bool, true, false, ◌&&◌, List, [], ◌∷◌, length, map, nat_le, slice_index, if◌then◌else◌, Result, Ok}
use Rattle.std.specs.List.{range_with_len, slice_index_or, sum_by}
use Rattle.ii_io.specs.declared.faults.Part.{Part}
use Rattle.ii_io.specs.Parts.{◌>>=◌}
use Rattle.ii_base.specs.declared.schema.index_record_option.IndexRecordOption.{IndexRecordOption}
use Rattle.ii_base.specs.Options.{has_freq}
use Rattle.ii_base.specs.Entries.{Entry}
use Rattle.ii_layout.specs.SkipList.{SkipEntry, SkipList}
use Rattle.ii_layout.specs.SkipReader.{code_of_max_tf, max_tf_of_code}
use Rattle.ii_layout.specs.Postings.{postings}
use Rattle.ii_check.specs.declared.freq_reading_option.FreqReadingOption.{FreqReadingOption}
use Rattle.ii_check.specs.FreqReading.{freq_reading_of}
use Rattle.ii_check.specs.CheckedPostings.{excludes, is_read}

-- the bounds of a block: a norm id and a term frequency, where 0 means none
abbrev pub entry_bounds : SkipEntry → ℕ × ℕ
entry_bounds e = (e.block_wand_fieldnorm_id, max_tf_of_code e.block_wand_term_freq)

-- the bounds of each full block, if the term has term frequencies
abbrev pub bounds_of : SkipList → List (ℕ × ℕ)
bounds_of skip = if has_freq skip.skip_info then map entry_bounds skip.entries else []

-- these bounds, by the bytes of a term
abbrev pub bounds_read : IndexRecordOption → IndexRecordOption → ℕ → List ℕ → Result (List (ℕ × ℕ)) Part
bounds_read recorded requested doc_freq bytes = do
  p ← postings recorded requested doc_freq bytes
  Ok (bounds_of p.skip)

-- the validated bounds: those of a term whose frequencies are read
abbrev pub trusted : FreqReadingOption → List (ℕ × ℕ) → List (ℕ × ℕ)
trusted reading bounds = if is_read reading then bounds else []

-- these bounds, by the bytes of a term
abbrev pub bounds_trusted : IndexRecordOption → IndexRecordOption → ℕ → List ℕ → Result (List (ℕ × ℕ)) Part
bounds_trusted recorded requested doc_freq bytes = do
  p ← postings recorded requested doc_freq bytes
  Ok (trusted (freq_reading_of requested p) (bounds_of p.skip))

-- the bounds of a block as the two bytes of its entry
abbrev pub stored_bounds : ℕ × ℕ → ℕ × ℕ
stored_bounds b = (b.0, code_of_max_tf b.1)

-- the term frequency that bounds a block
abbrev pub freq_bound : List (ℕ × ℕ) → ℕ → ℕ
freq_bound bounds block = (slice_index_or bounds block (0, 0)).1

-- A block may have a term frequency of at least `least` by its bound.
abbrev pub AllowsFreq : ℕ → List (ℕ × ℕ) → ℕ → Type 0
AllowsFreq least bounds block = excludes least (freq_bound bounds block) ≡ false

-- how many blocks after one, up to another, may have a term frequency of at least `least` by their bounds
abbrev pub blocks_with_freq : ℕ → List (ℕ × ℕ) → ℕ → ℕ → ℕ
blocks_with_freq least bounds old new = sum_by (λ b. if excludes least (freq_bound bounds b) then 0 else 1) (range_with_len (old + 1) (new - old))

-- whether an entry is at least a target and has a term frequency of at least `least`
abbrev pub is_wanted : ℕ → ℕ → Entry → Bool
is_wanted target least e = nat_le target e.doc && nat_le least e.term_freq

-- the remaining entries from the first such entry on
abbrev pub sought_with_freq : ℕ → ℕ → List Entry → List Entry
sought_with_freq target least [] = []
sought_with_freq target least (e ∷ es) = if is_wanted target least e then e ∷ es else sought_with_freq target least es

-- the same for a document and its term frequency, by their place
abbrev pub is_wanted_at : ℕ → ℕ → List ℕ → List ℕ → ℕ → Bool
is_wanted_at target least docs freqs n = nat_le target (slice_index docs n) && nat_le least (slice_index freqs n)

-- No document from place m to before place n matches.
abbrev pub AreUnwanted : ℕ → ℕ → List ℕ → List ℕ → ℕ → ℕ → Type 0
AreUnwanted target least docs freqs m n = (k : ℕ) → m ≤ k → k < n → k < length docs → is_wanted_at target least docs freqs k ≡ false

-- Place n is that of the first match from place m on, or is after all documents.
pub record IsFirstWanted (target least : ℕ) (docs freqs : List ℕ) (m n : ℕ) : Type 0 where
  pub forward : m ≤ n
  pub before : AreUnwanted target least docs freqs m n
  pub there : n < length docs → is_wanted_at target least docs freqs n ≡ true

-- Place k of the block is the first match from place m on, or is after the block's documents.
pub record IsPlaced (target least : ℕ) (docs freqs : List ℕ) (m block k : ℕ) : Type 0 where
  pub forward : m ≤ 128 * block + k
  pub most : k ≤ 128
  pub before : AreUnwanted target least docs freqs m (128 * block + k)
  pub there : k < 128 → 128 * block + k < length docs → is_wanted_at target least docs freqs (128 * block + k) ≡ true
  pub full : k ≡ 128 → block < length docs / 128

-- No document of the blocks between a full block and a later one matches.
pub record PassesBlocks (target least : ℕ) (docs freqs : List ℕ) (old new : ℕ) : Type 0 where
  pub behind : old < new
  pub within : new ≤ length docs / 128
  pub between : AreUnwanted target least docs freqs (128 * old + 128) (128 * new)

-- Postings that were validated, and what gives their blocks.
use Rattle.std.specs.Prelude.{◌≡◌, ℕ, ◌+◌, ◌-◌, ◌*◌, ◌/◌, ◌%◌, ◌<◌, ◌≤◌, max, slice_index, nat_lt, ◌==◌, Bool, true, false, not, ◌&&◌, ◌||◌, List, [], take, drop, length, replicate, Option, Some, None, is_some, Ok}
use Rattle.std.specs.List.{sum}
use Rattle.std.specs.Result.{result_unwrap_or}
use Rattle.ii_base.specs.declared.schema.index_record_option.IndexRecordOption.{IndexRecordOption}
use Rattle.ii_base.specs.declared.schema.index_record_option.IndexRecordOption.TheVariants.{Basic}
use Rattle.ii_base.specs.Options.{has_positions}
use Rattle.ii_base.specs.declared.doc_id.TheConstants.{TERMINATED}
use Rattle.ii_base.specs.Entries.{are_documents}
use Rattle.ii_codes.specs.BlockDecoder.{BlockDecoderState, decodes_of}
use Rattle.ii_codes.specs.Sums.{fit_u32}
use Rattle.ii_layout.specs.SkipList.{IsSplit, entry_size, entries_at, tf_sum_before}
use Rattle.ii_layout.specs.SkipReader.{SkipReaderState, max_tf_of_code, reader_at}
use Rattle.ii_layout.specs.Documents.{documents_at, skip_entry}
use Rattle.ii_layout.specs.Frequencies.{bounds_counts, freqs_at}
use Rattle.ii_layout.specs.Postings.{Postings, postings}
use Rattle.ii_layout.specs.Written.{block_of}
use Rattle.ii_check.specs.declared.freq_reading_option.FreqReadingOption.{FreqReadingOption}
use Rattle.ii_check.specs.declared.freq_reading_option.FreqReadingOption.TheVariants.{NoFreq, SkipFreq, ReadFreq}
use Rattle.ii_check.specs.FreqReading.{freq_reading_of}

-- options recorded and requested, number of documents, postings, and whether frequencies are read
pub record CheckedPostingsState : Type 0 where
  pub recorded : IndexRecordOption
  pub requested : IndexRecordOption
  pub doc_freq : ℕ
  pub postings : Postings
  pub freq_reading : FreqReadingOption

-- the postings of a term in no documents
abbrev pub no_postings : Postings
no_postings = record { skip = record { skip_info = Basic; entries = []; body = [] }; docs = []; after = []; freqs = None }

-- the postings that valid bytes hold
unfoldable pub given : IndexRecordOption → IndexRecordOption → ℕ → List ℕ → Postings
given recorded requested doc_freq bytes = result_unwrap_or (postings recorded requested doc_freq bytes) no_postings

-- Bytes were validated: places of their skip list, valid postings, and whether frequencies are read.
pub record IsChecked (recorded requested : IndexRecordOption) (doc_freq : ℕ) (bytes : List ℕ) (skip_info : IndexRecordOption) (entries body : ℕ) (reading : FreqReadingOption) : Type 0 where
  pub split : IsSplit recorded (doc_freq / 128) bytes skip_info entries body
  pub there : postings recorded requested doc_freq bytes ≡ Ok (given recorded requested doc_freq bytes)
  pub reading_is : reading ≡ freq_reading_of requested (given recorded requested doc_freq bytes)

-- whether term frequencies are read
abbrev pub is_read : FreqReadingOption → Bool
is_read NoFreq = false
is_read SkipFreq = false
is_read ReadFreq = true

-- Postings that bytes hold: an entry for each full block leads to the documents and frequencies.
pub record AreGiven (p : CheckedPostingsState) : Type 0 where
  pub entries : length p.postings.skip.entries ≡ p.doc_freq / 128
  pub documents : documents_at p.postings.skip (p.doc_freq % 128) ≡ Some (p.postings.docs, p.postings.after)
  pub freqs : (fs : List ℕ) → p.postings.freqs ≡ Some fs → freqs_at p.postings.skip (p.doc_freq % 128) p.postings.after ≡ Some fs
  pub read : is_some p.postings.freqs ≡ is_read p.freq_reading
  pub shape : is_some p.postings.freqs ≡ true → p.postings.skip.skip_info ≡ p.recorded

-- Term frequencies are as many as the term's documents, and have 32 bits.
pub record AreReadFreqs (doc_freq : ℕ) (freqs : List ℕ) : Type 0 where
  pub many : length freqs ≡ doc_freq
  pub low : fit_u32 freqs ≡ true

-- Documents ascend and match `doc_freq`; entries match the full blocks, with their sums and bounds.
pub record HasDocuments (p : CheckedPostingsState) : Type 0 where
  pub ascending : are_documents p.postings.docs ≡ true
  pub many : length p.postings.docs ≡ p.doc_freq
  pub entries : length p.postings.skip.entries ≡ p.doc_freq / 128
  pub freqs : (fs : List ℕ) → p.postings.freqs ≡ Some fs → AreReadFreqs p.doc_freq fs
  pub read : is_some p.postings.freqs ≡ is_read p.freq_reading
  pub sums : (fs : List ℕ) → p.postings.freqs ≡ Some fs → has_positions p.recorded ≡ true → (i : ℕ) → i ≤ p.doc_freq / 128 → tf_sum_before p.postings.skip.entries i ≡ sum (take (128 * i) fs)
  pub bounds : (fs : List ℕ) → p.postings.freqs ≡ Some fs → (i : ℕ) → i < p.doc_freq / 128 → bounds_counts (max_tf_of_code (skip_entry p.postings.skip.entries i).block_wand_term_freq) (block_of fs i) ≡ true

-- a decoder that hasn't decoded anything
abbrev pub new_decoder : ℕ → BlockDecoderState
new_decoder padding = record { output = replicate 128 padding; output_len = 0; decodes = 0 }

-- A skip reader is at a block of the postings, or at the empty one after the last.
pub record IsAtBlock (p : CheckedPostingsState) (skip : SkipReaderState) : Type 0 where
  pub reader : skip ≡ reader_at p.postings.skip.skip_info p.doc_freq p.postings.skip.entries skip.block
  pub within : skip.block ≤ p.doc_freq / 128 + 1

-- A decoder holds the values of a block, followed by a padding.
pub record HoldsBlock (values : List ℕ) (block padding : ℕ) (decoder : BlockDecoderState) : Type 0 where
  pub many : decoder.output_len ≡ length (block_of values block)
  pub held : take decoder.output_len decoder.output ≡ block_of values block
  pub filled : drop decoder.output_len decoder.output ≡ replicate (128 - decoder.output_len) padding

-- A decoder holds the term frequencies of a block if they are read, else nothing.
abbrev pub HoldsFreqs : Option (List ℕ) → ℕ → BlockDecoderState → Type 0
HoldsFreqs None block decoder = decoder ≡ new_decoder 1
HoldsFreqs (Some freqs) block decoder = HoldsBlock freqs block 1 decoder

-- A decoder decoded the values of a block.
pub record Loads (values : List ℕ) (block padding : ℕ) (old new : BlockDecoderState) : Type 0 where
  pub holds : HoldsBlock values block padding new
  pub decodes : new.decodes ≡ old.decodes + decodes_of (length (block_of values block))

-- A decoder decoded the term frequencies of a block if they are read, else it is unchanged.
abbrev pub LoadsFreqs : Option (List ℕ) → ℕ → BlockDecoderState → BlockDecoderState → Type 0
LoadsFreqs None block old new = new ≡ old
LoadsFreqs (Some freqs) block old new = Loads freqs block 1 old new

-- Two decoders decoded the documents of a block and, if they are read, its term frequencies.
pub record LoadsBlock (p : Postings) (block : ℕ) (docs docs' freqs freqs' : BlockDecoderState) : Type 0 where
  pub docs_are : Loads p.docs block TERMINATED docs docs'
  pub freqs_are : LoadsFreqs p.freqs block freqs freqs'

-- Bytes begin with the entries of the postings.
pub record IsSkipData (p : CheckedPostingsState) (bytes : List ℕ) : Type 0 where
  pub enough : entry_size p.postings.skip.skip_info * (p.doc_freq / 128) ≤ length bytes
  pub entries : p.postings.skip.entries ≡ entries_at p.postings.skip.skip_info (p.doc_freq / 128) bytes

-- Term frequencies are those of a last block that isn't full, if they are read.
abbrev pub AreLastFreqs : Option (List ℕ) → ℕ → List ℕ → Type 0
AreLastFreqs None block last = length last < 128
AreLastFreqs (Some freqs) block last = (last ≡ block_of freqs block) × (length last < 128)

-- A seek from block i to the first block that reaches the target, or to the vints; from there on it stays.
pub record SeeksBlock (target : ℕ) (docs : List ℕ) (i k : ℕ) : Type 0 where
  pub forward : i ≤ k
  pub within : k ≤ max i (length docs / 128)
  pub passed : (j : ℕ) → i ≤ j → j < k → slice_index docs (128 * j + 127) < target
  pub found : k < length docs / 128 → target ≤ slice_index docs (128 * k + 127)

-- whether a bound says that no term frequency of a block is at least `least`
abbrev pub excludes : ℕ → ℕ → Bool
excludes least bound = not (bound == 0) && nat_lt bound least

-- whether block j ends below a target or, by its entry, has no term frequency of at least `least`
abbrev pub is_passed : ℕ → ℕ → Postings → ℕ → Bool
is_passed target least p j = nat_lt (slice_index p.docs (128 * j + 127)) target || excludes least (max_tf_of_code (skip_entry p.skip.entries j).block_wand_term_freq)

-- A seek by frequency moved from block i to the first later one that isn't passed, or to the vints.
pub record SeeksFreq (target least : ℕ) (p : Postings) (i k : ℕ) : Type 0 where
  pub behind : i < k
  pub within : k ≤ length p.docs / 128
  pub passed : (j : ℕ) → i < j → j < k → is_passed target least p j ≡ true
  pub found : k < length p.docs / 128 → is_passed target least p k ≡ false

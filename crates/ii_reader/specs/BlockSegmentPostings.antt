-- A cursor over the blocks of a term's postings.
use Rattle.std.specs.Prelude.{◌≡◌, ℕ, ◌+◌, ◌-◌, ◌*◌, ◌/◌, ◌<◌, ◌≤◌, max, true, List, [], length, take, min, ⊤, Option, None, Some, Ok, is_some, slice_index, if◌then◌else◌}
use Rattle.std.specs.List.{slice_index_or, sum}
use Rattle.ii_base.specs.declared.schema.index_record_option.IndexRecordOption.{IndexRecordOption}
use Rattle.ii_base.specs.declared.doc_id.TheConstants.{TERMINATED}
use Rattle.ii_base.specs.Entries.{are_documents}
use Rattle.ii_codes.specs.BlockDecoder.{BlockDecoderState}
use Rattle.ii_layout.specs.SkipReader.{SkipReaderState}
use Rattle.ii_layout.specs.TermList.{docs_and_freqs}
use Rattle.ii_layout.specs.Written.{block_of}
use Rattle.ii_check.specs.declared.freq_reading_option.FreqReadingOption.{FreqReadingOption}
use Rattle.ii_check.specs.declared.validation.Validation.{Validation}
use Rattle.ii_check.specs.CheckedBlocks.{BlockCounts, counts_checked, no_blocks}
use Rattle.ii_check.specs.DecodedBlocks.{AreDecoded, DecodesAllowed, DecodesLast, logged}
use Rattle.ii_check.specs.FreqReading.{freq_reading, reading_of_none}
use Rattle.ii_reader.specs.Bounds.{AllowsFreq, blocks_with_freq, bounds_read}
use Rattle.ii_check.specs.CheckedPostings.{AreReadFreqs, CheckedPostingsState, HasDocuments, HoldsBlock, HoldsFreqs, IsAtBlock, is_read}

-- a cursor: options, documents, frequencies, bounds of full blocks, block, which blocks it decoded, how often it decoded and read, and what was decoded to validate the list
pub record BlockSegmentPostingsState : Type 0 where
  pub recorded : IndexRecordOption
  pub requested : IndexRecordOption
  pub docs : List ℕ
  pub freqs : Option (List ℕ)
  pub freq_reading : FreqReadingOption
  pub bounds : List (ℕ × ℕ)
  pub block : ℕ
  pub doc_blocks : List ℕ
  pub freq_blocks : List ℕ
  pub doc_decodes : ℕ
  pub freq_decodes : ℕ
  pub entries_read : ℕ
  pub checked : BlockCounts

-- a cursor over no documents, by the recorded and the requested option
abbrev pub cursor_of_none : IndexRecordOption → IndexRecordOption → BlockSegmentPostingsState
cursor_of_none recorded requested = record { recorded = recorded; requested = requested; docs = []; freqs = None; freq_reading = reading_of_none recorded requested; bounds = []; block = 0; doc_blocks = []; freq_blocks = []; doc_decodes = 0; freq_decodes = 0; entries_read = 0; checked = no_blocks }

-- the document at a place of a block, or `TERMINATED` after its documents
abbrev pub doc_in_block : List ℕ → ℕ → ℕ → ℕ
doc_in_block docs block idx = slice_index_or (block_of docs block) idx TERMINATED

-- the term frequencies of a block, none if they aren't read
abbrev pub freqs_of_block : Option (List ℕ) → ℕ → List ℕ
freqs_of_block None block = []
freqs_of_block (Some freqs) block = block_of freqs block

-- the term frequency at a place of a block, 1 if term frequencies aren't read
abbrev pub freq_in_block : Option (List ℕ) → ℕ → ℕ → ℕ
freq_in_block None block idx = 1
freq_in_block (Some freqs) block idx = slice_index (block_of freqs block) idx

-- how often term frequencies were decoded for the first block of a list of `n` documents
abbrev pub first_decodes : Option (List ℕ) → ℕ → ℕ
first_decodes None n = 0
first_decodes (Some freqs) n = min 1 n

-- which block of term frequencies was decoded first, of a list of `n` documents: block 0 if they are read
abbrev pub first_freqs : FreqReadingOption → ℕ → List ℕ
first_freqs reading n = if is_read reading then logged 0 n else []

-- Documents and frequencies of a list: `n` of each, ascending documents, and 32-bit frequencies.
pub record AreEntries (n : ℕ) (docs : List ℕ) (freqs : Option (List ℕ)) : Type 0 where
  pub many : length docs ≡ n
  pub ascending : are_documents docs ≡ true
  pub freqs_are : (fs : List ℕ) → freqs ≡ Some fs → AreReadFreqs n fs

-- The number of positions before a document is the sum of all term frequencies before it.
abbrev pub ComeBefore : Option (List ℕ) → ℕ → ℕ → Type 0
ComeBefore None place offset = ⊤
ComeBefore (Some freqs) place offset = offset ≡ sum (take place freqs)

-- A cursor was opened at the first block of the documents at the front of bytes. Besides validation, it decoded no other block.
pub record OpensDocs (validation : Validation) (recorded requested : IndexRecordOption) (doc_freq : ℕ) (bytes : List ℕ) (cursor : BlockSegmentPostingsState) : Type 0 where
  pub docs : docs_and_freqs recorded requested doc_freq bytes ≡ Ok (cursor.docs, cursor.freqs)
  pub recorded_is : cursor.recorded ≡ recorded
  pub requested_is : cursor.requested ≡ requested
  pub reading : freq_reading recorded requested doc_freq bytes ≡ Ok cursor.freq_reading
  pub bounds : bounds_read recorded requested doc_freq bytes ≡ Ok cursor.bounds
  pub entries : AreEntries doc_freq cursor.docs cursor.freqs
  pub read : is_some cursor.freqs ≡ is_read cursor.freq_reading
  pub first : cursor.block ≡ 0
  pub doc_blocks : cursor.doc_blocks ≡ logged 0 doc_freq
  pub freq_blocks : cursor.freq_blocks ≡ first_freqs cursor.freq_reading doc_freq
  pub doc_decodes : cursor.doc_decodes ≡ min 1 doc_freq
  pub freq_decodes : cursor.freq_decodes ≡ first_decodes cursor.freqs doc_freq
  pub entries_read : cursor.entries_read ≡ min 1 (doc_freq / 128)
  pub checked : cursor.checked ≡ counts_checked validation cursor.freq_reading doc_freq

-- Each block and each skip entry up to here was decoded or read at most once; the empty block is the end.
pub record IsLazy (c : BlockSegmentPostingsState) : Type 0 where
  pub within : c.block ≤ length c.docs / 128 + 1
  pub doc_blocks : AreDecoded c.block c.doc_decodes c.doc_blocks
  pub freq_blocks : AreDecoded c.block c.freq_decodes c.freq_blocks
  pub doc_decodes : c.doc_decodes ≤ c.block + 1
  pub freq_decodes : c.freq_decodes ≤ c.block + 1
  pub entries_read : c.entries_read ≤ min (c.block + 1) (length c.docs / 128)

-- A cursor moves to a block: the list stays, and it only decodes if the block is another one.
pub record GoesTo (old new : BlockSegmentPostingsState) (to : ℕ) : Type 0 where
  pub recorded : new.recorded ≡ old.recorded
  pub requested : new.requested ≡ old.requested
  pub docs : new.docs ≡ old.docs
  pub freqs : new.freqs ≡ old.freqs
  pub freq_reading : new.freq_reading ≡ old.freq_reading
  pub bounds : new.bounds ≡ old.bounds
  pub checked : new.checked ≡ old.checked
  pub block : new.block ≡ to
  pub doc_blocks : DecodesLast old.block new.block old.doc_blocks new.doc_blocks
  pub freq_blocks : DecodesLast old.block new.block old.freq_blocks new.freq_blocks
  pub doc_decodes : new.doc_decodes ≤ old.doc_decodes + min 1 (to - old.block)
  pub freq_decodes : new.freq_decodes ≤ old.freq_decodes + min 1 (to - old.block)

-- A cursor seeks a frequency: the list stays, and it only decodes blocks whose bound allows `least`.
pub record LooksFor (least : ℕ) (old new : BlockSegmentPostingsState) : Type 0 where
  pub recorded : new.recorded ≡ old.recorded
  pub requested : new.requested ≡ old.requested
  pub docs : new.docs ≡ old.docs
  pub freqs : new.freqs ≡ old.freqs
  pub freq_reading : new.freq_reading ≡ old.freq_reading
  pub bounds : new.bounds ≡ old.bounds
  pub checked : new.checked ≡ old.checked
  pub forward : old.block ≤ new.block
  pub doc_blocks : DecodesAllowed (AllowsFreq least old.bounds) old.block new.block old.doc_blocks new.doc_blocks
  pub freq_blocks : DecodesAllowed (AllowsFreq least old.bounds) old.block new.block old.freq_blocks new.freq_blocks
  pub doc_decodes : new.doc_decodes ≤ old.doc_decodes + blocks_with_freq least old.bounds old.block new.block
  pub freq_decodes : new.freq_decodes ≤ old.freq_decodes + blocks_with_freq least old.bounds old.block new.block

-- The state of a cursor: validated postings, a skip reader at its block, decoders with that block, and the blocks that they decoded.
pub record IsLoaded (checked : CheckedPostingsState) (skip : SkipReaderState) (docs freqs : BlockDecoderState) (doc_blocks freq_blocks : List ℕ) : Type 0 where
  pub has : HasDocuments checked
  pub at : IsAtBlock checked skip
  pub docs_held : HoldsBlock checked.postings.docs skip.block TERMINATED docs
  pub freqs_held : HoldsFreqs checked.postings.freqs skip.block freqs
  pub docs_decoded : AreDecoded skip.block docs.decodes doc_blocks
  pub freqs_decoded : AreDecoded skip.block freqs.decodes freq_blocks
  pub doc_decodes : docs.decodes ≤ skip.block + 1
  pub freq_decodes : freqs.decodes ≤ skip.block + 1

-- The first `below` documents are less than the target, and the next one, if there is one, isn't.
pub record IsBelow (target : ℕ) (docs : List ℕ) (below : ℕ) : Type 0 where
  pub within : below ≤ length docs
  pub before : (n : ℕ) → n < below → slice_index docs n < target
  pub there : below < length docs → target ≤ slice_index docs below

-- A seek from block i to the first block k that reaches the target, or to the last one; `below` are less.
pub record IsSought (target : ℕ) (docs : List ℕ) (i k below : ℕ) : Type 0 where
  pub forward : i ≤ k
  pub within : k ≤ max i (length docs / 128)
  pub here : below ≤ length (block_of docs k)
  pub inside : k < length docs / 128 → below < 128
  pub before : (n : ℕ) → 128 * i ≤ n → n < 128 * k + below → slice_index docs n < target
  pub after : (n : ℕ) → 128 * k + below ≤ n → n < length docs → target ≤ slice_index docs n

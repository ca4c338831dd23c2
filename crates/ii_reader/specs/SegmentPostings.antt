-- A cursor over the documents of a term, with their term frequencies and positions.
use Rattle.std.specs.Prelude.{◌≡◌, ℕ, ◌+◌, ◌*◌, ◌/◌, ◌<◌, ◌≤◌, true, List, [], Option, None, Some, Ok, drop, length, min, ⊤}
use Rattle.std.specs.List.{sum, list_all}
use Rattle.ii_base.specs.Options.{downgrade, has_positions}
use Rattle.ii_codes.specs.Sums.{fit_u32}
use Rattle.ii_base.specs.Entries.{Entry}
use Rattle.ii_layout.specs.Positions.{positions_of}
use Rattle.ii_layout.specs.PositionReader.{PositionReaderState}
use Rattle.ii_layout.specs.TermList.{deltas_if, list_of, term_list}
use Rattle.ii_base.specs.declared.schema.index_record_option.IndexRecordOption.{IndexRecordOption}
use Rattle.ii_check.specs.declared.validation.Validation.{Validation}
use Rattle.ii_check.specs.CheckedBlocks.{BlockCounts, counts_checked, no_blocks}
use Rattle.ii_check.specs.CheckedPositions.{ChecksPositions, PositionCounts, no_position_blocks}
use Rattle.ii_check.specs.DecodedBlocks.{AreDecoded, DecodesLast, DecodesLater, logged}
use Rattle.ii_check.specs.FreqReading.{freq_reading, reading_of_none}
use Rattle.ii_check.specs.Positions.{deltas_read}
use Rattle.ii_check.specs.declared.freq_reading_option.FreqReadingOption.{FreqReadingOption}
use Rattle.ii_reader.specs.Bounds.{bounds_trusted, trusted}
use Rattle.ii_reader.specs.BlockSegmentPostings.{BlockSegmentPostingsState, OpensDocs, first_freqs}

-- a cursor: remaining documents, `doc_freq`, validated bounds, current block, which blocks it decoded, how often it decoded and read, and what was decoded to validate the list and its positions
pub record SegmentPostingsState : Type 0 where
  pub rest : List Entry
  pub doc_freq : ℕ
  pub freq_reading : FreqReadingOption
  pub bounds : List (ℕ × ℕ)
  pub block : ℕ
  pub doc_blocks : List ℕ
  pub freq_blocks : List ℕ
  pub doc_decodes : ℕ
  pub freq_decodes : ℕ
  pub entries_read : ℕ
  pub position_decodes : ℕ
  pub checked : BlockCounts
  pub positions_checked : PositionCounts

-- a cursor over no documents, by the recorded and the requested option
abbrev pub postings_of_none : IndexRecordOption → IndexRecordOption → SegmentPostingsState
postings_of_none recorded requested = record { rest = []; doc_freq = 0; freq_reading = reading_of_none recorded requested; bounds = []; block = 0; doc_blocks = []; freq_blocks = []; doc_decodes = 0; freq_decodes = 0; entries_read = 0; position_decodes = 0; checked = no_blocks; positions_checked = no_position_blocks }

-- how often positions were decoded
abbrev pub decodes_read : Option PositionReaderState → ℕ
decodes_read None = 0
decodes_read (Some reader) = reader.decodes

-- the cursor over the documents of a block cursor from a place on, with the positions of a reader and what was decoded to validate these
abbrev pub postings_from : ℕ → BlockSegmentPostingsState → Option PositionReaderState → PositionCounts → SegmentPostingsState
postings_from place cursor reader counts = record { rest = drop place (list_of cursor.docs cursor.freqs (deltas_read reader)); doc_freq = length cursor.docs; freq_reading = cursor.freq_reading; bounds = trusted cursor.freq_reading cursor.bounds; block = cursor.block; doc_blocks = cursor.doc_blocks; freq_blocks = cursor.freq_blocks; doc_decodes = cursor.doc_decodes; freq_decodes = cursor.freq_decodes; entries_read = cursor.entries_read; position_decodes = decodes_read reader; checked = cursor.checked; positions_checked = counts }

-- A cursor was opened at the first document of a list, given by its bytes. Besides validation, it decoded no block but the first.
pub record OpensList (validation : Validation) (recorded requested : IndexRecordOption) (doc_freq : ℕ) (postings : List ℕ) (positions : Option (List ℕ)) (cursor : SegmentPostingsState) : Type 0 where
  pub list : term_list recorded requested doc_freq postings positions ≡ Ok cursor.rest
  pub doc_freq_is : cursor.doc_freq ≡ doc_freq
  pub many : length cursor.rest ≡ doc_freq
  pub reading : freq_reading recorded requested doc_freq postings ≡ Ok cursor.freq_reading
  pub bounds : bounds_trusted recorded requested doc_freq postings ≡ Ok cursor.bounds
  pub first : cursor.block ≡ 0
  pub doc_blocks : cursor.doc_blocks ≡ logged 0 doc_freq
  pub freq_blocks : cursor.freq_blocks ≡ first_freqs cursor.freq_reading doc_freq
  pub doc_decodes : cursor.doc_decodes ≤ 1
  pub freq_decodes : cursor.freq_decodes ≤ 1
  pub entries_read : cursor.entries_read ≤ 1
  pub position_decodes : cursor.position_decodes ≤ 1
  pub checked : cursor.checked ≡ counts_checked validation cursor.freq_reading doc_freq
  pub positions_checked : ChecksPositions validation doc_freq positions no_position_blocks cursor.positions_checked

-- Deltas are the positions of documents with these frequencies: matching in number, and of 32 bits each.
pub record HasDeltas (freqs deltas : List ℕ) : Type 0 where
  pub many : length deltas ≡ sum freqs
  pub fit : list_all fit_u32 (positions_of freqs deltas) ≡ true

-- The same, if there are deltas.
abbrev pub AreGivenDeltas : Option (List ℕ) → Option (List ℕ) → Type 0
AreGivenDeltas freqs None = ⊤
AreGivenDeltas None (Some deltas) = ⊥
AreGivenDeltas (Some freqs) (Some deltas) = HasDeltas freqs deltas

-- Deltas belong to a cursor whose field records positions, which are requested.
abbrev pub FitCursor : BlockSegmentPostingsState → Option (List ℕ) → Type 0
FitCursor cursor None = ⊤
FitCursor cursor (Some deltas) = (has_positions (downgrade cursor.recorded cursor.requested) ≡ true) × AreGivenDeltas cursor.freqs (Some deltas)

-- A block cursor and a reader of positions were opened over a list, given by its bytes.
pub record OpensParts (validation : Validation) (recorded requested : IndexRecordOption) (doc_freq : ℕ) (postings : List ℕ) (positions : Option (List ℕ)) (cursor : BlockSegmentPostingsState) (reader : Option PositionReaderState) (counts : PositionCounts) : Type 0 where
  pub docs : OpensDocs validation recorded requested doc_freq postings cursor
  pub deltas : deltas_if (has_positions (downgrade recorded requested)) cursor.freqs positions ≡ Some (deltas_read reader)
  pub decodes : decodes_read reader ≤ 1
  pub checked : ChecksPositions validation doc_freq positions no_position_blocks counts

-- The cursor moved forward. It decoded only later blocks, up to the new one, each at most once, and no positions.
pub record WentLazily (old new : SegmentPostingsState) : Type 0 where
  pub doc_freq : new.doc_freq ≡ old.doc_freq
  pub freq_reading : new.freq_reading ≡ old.freq_reading
  pub bounds : new.bounds ≡ old.bounds
  pub checked : new.checked ≡ old.checked
  pub positions_checked : new.positions_checked ≡ old.positions_checked
  pub forward : old.block ≤ new.block
  pub doc_blocks : DecodesLater old.block new.block old.doc_blocks new.doc_blocks
  pub freq_blocks : DecodesLater old.block new.block old.freq_blocks new.freq_blocks
  pub doc_decodes : new.doc_decodes + old.block ≤ old.doc_decodes + new.block
  pub freq_decodes : new.freq_decodes + old.block ≤ old.freq_decodes + new.block
  pub position_decodes : new.position_decodes ≡ old.position_decodes

-- The same with `asked` reads of `counts` positions, which only decoded the blocks that hold them.
pub record SpentLazily (asked counts : ℕ) (old new : SegmentPostingsState) : Type 0 where
  pub doc_freq : new.doc_freq ≡ old.doc_freq
  pub freq_reading : new.freq_reading ≡ old.freq_reading
  pub bounds : new.bounds ≡ old.bounds
  pub checked : new.checked ≡ old.checked
  pub positions_checked : new.positions_checked ≡ old.positions_checked
  pub forward : old.block ≤ new.block
  pub doc_blocks : DecodesLater old.block new.block old.doc_blocks new.doc_blocks
  pub freq_blocks : DecodesLater old.block new.block old.freq_blocks new.freq_blocks
  pub doc_decodes : new.doc_decodes + old.block ≤ old.doc_decodes + new.block
  pub freq_decodes : new.freq_decodes + old.block ≤ old.freq_decodes + new.block
  pub position_decodes : new.position_decodes ≤ old.position_decodes + counts / 128 + 2 * asked

-- Each block and each skip entry up to here was decoded or read at most once; the empty block is the end.
pub record StaysLazy (s : SegmentPostingsState) : Type 0 where
  pub within : s.block ≤ s.doc_freq / 128 + 1
  pub doc_blocks : AreDecoded s.block s.doc_decodes s.doc_blocks
  pub freq_blocks : AreDecoded s.block s.freq_decodes s.freq_blocks
  pub doc_decodes : s.doc_decodes ≤ s.block + 1
  pub freq_decodes : s.freq_decodes ≤ s.block + 1
  pub entries_read : s.entries_read ≤ min (s.block + 1) (s.doc_freq / 128)

-- The first of the remaining documents is in the current block.
pub record StandsInBlock (s : SegmentPostingsState) : Type 0 where
  pub here : 0 < length s.rest → 128 * s.block + length s.rest ≤ s.doc_freq
  pub near : s.doc_freq < 128 * s.block + 128 + length s.rest

-- At most one block was decoded, documents and frequencies: the new one, if it is a later one. No positions were.
pub record DecodesOnce (old new : SegmentPostingsState) : Type 0 where
  pub doc_blocks : DecodesLast old.block new.block old.doc_blocks new.doc_blocks
  pub freq_blocks : DecodesLast old.block new.block old.freq_blocks new.freq_blocks
  pub doc_decodes : new.doc_decodes ≤ old.doc_decodes + 1
  pub freq_decodes : new.freq_decodes ≤ old.freq_decodes + 1
  pub position_decodes : new.position_decodes ≡ old.position_decodes

-- Only the blocks of positions that hold `count` positions were decoded.
pub record DecodesPositions (count : ℕ) (old new : SegmentPostingsState) : Type 0 where
  pub block : new.block ≡ old.block
  pub doc_blocks : new.doc_blocks ≡ old.doc_blocks
  pub freq_blocks : new.freq_blocks ≡ old.freq_blocks
  pub doc_decodes : new.doc_decodes ≡ old.doc_decodes
  pub freq_decodes : new.freq_decodes ≡ old.freq_decodes
  pub entries_read : new.entries_read ≡ old.entries_read
  pub position_decodes : new.position_decodes ≤ old.position_decodes + count / 128 + 2

-- The terms of a field, as its bodies in the three files hold them.
use Rattle.std.specs.Prelude.{◌≡◌, ℕ, ◌≤◌, ◌⊎◌, Bool, true, false, not, ◌&&◌, ◌||◌, IsTrue, List, [], length, min, ◌/◌, nat_le, Option, None, Some, IfSome, IsOk, Result, Ok, Err, MatchOption}
use Rattle.std.specs.Option.{option_map}
use Rattle.std.specs.declared.ops.Range.{Range}
use Rattle.ii_io.specs.declared.faults.Fault.{Fault}
use Rattle.ii_io.specs.declared.faults.Fault.TheVariants.{OutOfMemory, Damaged}
use Rattle.ii_io.specs.declared.faults.Part.{Part}
use Rattle.ii_io.specs.declared.faults.Part.TheVariants as parts
use Rattle.ii_io.specs.Numbers.{number_at}
use Rattle.ii_base.specs.declared.schema.index_record_option.IndexRecordOption.{IndexRecordOption}
use Rattle.ii_base.specs.Options.{downgrade, has_positions}
use Rattle.ii_base.specs.Entries.{Entry}
use Rattle.ii_layout.specs.TermList.{docs_and_freqs, term_list}
use Rattle.ii_termstore.specs.declared.term_info.TermInfo.{TermInfo}
use Rattle.ii_termdict.specs.Dictionary.{info_under}
use Rattle.ii_check.specs.declared.validation.Validation.{Validation}
use Rattle.ii_check.specs.declared.validation.Validation.TheVariants.{Complete, Skipped}
use Rattle.ii_check.specs.CheckedBlocks.{counts_checked}
use Rattle.ii_check.specs.CheckedPositions.{ChecksPositions, no_position_blocks}
use Rattle.ii_check.specs.DecodedBlocks.{logged}
use Rattle.ii_check.specs.FreqReading.{freq_reading}
use Rattle.ii_definitions.specs.Tokens.{IndexToken}
use Rattle.ii_definitions.specs.Postings.{field_count, key_postings, occurs}
use Rattle.ii_definitions.specs.Files.{HoldsTerm, bytes_in}
use Rattle.ii_reader.specs.Bounds.{bounds_read, bounds_trusted}
use Rattle.ii_reader.specs.BlockSegmentPostings.{AreEntries, BlockSegmentPostingsState, first_decodes, first_freqs}
use Rattle.ii_reader.specs.SegmentPostings.{SegmentPostingsState}

-- a reader: dictionary entries, bytes of postings and positions, option of the field, number of tokens, and whether lookups validate postings
pub record InvertedIndexReaderState : Type 0 where
  pub terms : List (List ℕ × TermInfo)
  pub postings : List ℕ
  pub positions : List ℕ
  pub option : IndexRecordOption
  pub num_tokens : ℕ
  pub validation : Validation

-- a reader over no terms
abbrev pub reader_of_none : IndexRecordOption → InvertedIndexReaderState
reader_of_none option = record { terms = []; postings = []; positions = []; option = option; num_tokens = 0; validation = Complete }

-- a reader over a dictionary and two bodies, or nothing if the number of tokens is missing
abbrev pub reader_over : List (List ℕ × TermInfo) → List ℕ → List ℕ → IndexRecordOption → Option InvertedIndexReaderState
reader_over terms postings positions option =
    option_map (λ (counted : ℕ × List ℕ). record { terms = terms; postings = counted.1; positions = positions; option = option; num_tokens = counted.0; validation = Complete }) (number_at 8 postings)

-- a reader whose lookups open cursors without validation
abbrev pub trusted_reader : InvertedIndexReaderState → InvertedIndexReaderState
trusted_reader reader = record reader { validation = Skipped }

-- Lookups by this reader open cursors without validation.
abbrev pub IsTrusted : InvertedIndexReaderState → Type 0
IsTrusted reader = reader.validation ≡ Skipped

-- whether a range is within bytes
abbrev pub lies_in : List ℕ → Range ℕ → Bool
lies_in bytes range = nat_le range.start range.end && nat_le range.end (length bytes)

-- whether the positions of a term with term frequencies are read
abbrev pub reads_positions : InvertedIndexReaderState → IndexRecordOption → Bool
reads_positions reader requested = has_positions (downgrade reader.option requested)

-- the bytes if they are given
abbrev pub given_if : Bool → List ℕ → Option (List ℕ)
given_if false bytes = None
given_if true bytes = Some bytes

-- whether the ranges of a term are within the bodies; that of positions only counts if they are read
abbrev pub ranges_lie : InvertedIndexReaderState → IndexRecordOption → TermInfo → Bool
ranges_lie reader requested info =
    lies_in reader.postings info.postings_range && (not (reads_positions reader requested) || lies_in reader.positions info.positions_range)

-- what a term gives, or Range if its ranges aren't within the bodies
abbrev pub if_they_lie : {A : Type 0} → Bool → Result A Part → Result A Part
if_they_lie false found = Err parts.Range
if_they_lie true found = found

-- the list of a term, or its first corrupt part
abbrev pub term_of_file : InvertedIndexReaderState → IndexRecordOption → TermInfo → Result (List Entry) Part
term_of_file reader requested info =
    if_they_lie (ranges_lie reader requested info)
    (term_list reader.option requested info.doc_freq (bytes_in reader.postings info.postings_range) (Some (bytes_in reader.positions info.positions_range)))

-- the documents of a term and, if they are read, its frequencies, or its first corrupt part
abbrev pub docs_of_file : List ℕ → IndexRecordOption → IndexRecordOption → TermInfo → Result (List ℕ × Option (List ℕ)) Part
docs_of_file postings recorded requested info =
    if_they_lie (lies_in postings info.postings_range) (docs_and_freqs recorded requested info.doc_freq (bytes_in postings info.postings_range))

-- Each term opens, whatever is requested of its list.
abbrev pub AllOpen : InvertedIndexReaderState → Type 0
AllOpen reader = (key : List ℕ) (requested : IndexRecordOption) → IfSome (info_under key reader.terms) (λ info. IsOk (term_of_file reader requested info))

-- The reason of an error: an allocation failure, or the first corrupt part.
abbrev pub IsRefusal : {A : Type 0} → Result A Part → Fault → Type 0
IsRefusal found fault = (fault ≡ OutOfMemory) ⊎ ((part : Part) × (fault ≡ Damaged part) × (found ≡ Err part))

-- A cursor was opened at the start of a term's list. Besides validation, it decoded no block but the first.
pub record OpensTerm (validation : Validation) (reader : InvertedIndexReaderState) (requested : IndexRecordOption) (info : TermInfo) (cursor : SegmentPostingsState) : Type 0 where
  pub list : term_of_file reader requested info ≡ Ok cursor.rest
  pub doc_freq : cursor.doc_freq ≡ info.doc_freq
  pub many : length cursor.rest ≡ info.doc_freq
  pub reading : freq_reading reader.option requested info.doc_freq (bytes_in reader.postings info.postings_range) ≡ Ok cursor.freq_reading
  pub bounds : bounds_trusted reader.option requested info.doc_freq (bytes_in reader.postings info.postings_range) ≡ Ok cursor.bounds
  pub first : cursor.block ≡ 0
  pub doc_blocks : cursor.doc_blocks ≡ logged 0 info.doc_freq
  pub freq_blocks : cursor.freq_blocks ≡ first_freqs cursor.freq_reading info.doc_freq
  pub doc_decodes : cursor.doc_decodes ≤ 1
  pub freq_decodes : cursor.freq_decodes ≤ 1
  pub entries_read : cursor.entries_read ≤ 1
  pub position_decodes : cursor.position_decodes ≤ 1
  pub checked : cursor.checked ≡ counts_checked validation cursor.freq_reading info.doc_freq
  pub positions_checked : ChecksPositions validation info.doc_freq (given_if (reads_positions reader requested) (bytes_in reader.positions info.positions_range)) no_position_blocks cursor.positions_checked

-- A block cursor was opened at the first block of a term's documents. Besides validation, it decoded no other.
pub record OpensBlocks (validation : Validation) (postings : List ℕ) (recorded requested : IndexRecordOption) (info : TermInfo) (cursor : BlockSegmentPostingsState) : Type 0 where
  pub docs : docs_of_file postings recorded requested info ≡ Ok (cursor.docs, cursor.freqs)
  pub recorded_is : cursor.recorded ≡ recorded
  pub requested_is : cursor.requested ≡ requested
  pub reading : freq_reading recorded requested info.doc_freq (bytes_in postings info.postings_range) ≡ Ok cursor.freq_reading
  pub bounds : bounds_read recorded requested info.doc_freq (bytes_in postings info.postings_range) ≡ Ok cursor.bounds
  pub entries : AreEntries info.doc_freq cursor.docs cursor.freqs
  pub first : cursor.block ≡ 0
  pub doc_blocks : cursor.doc_blocks ≡ logged 0 info.doc_freq
  pub freq_blocks : cursor.freq_blocks ≡ first_freqs cursor.freq_reading info.doc_freq
  pub doc_decodes : cursor.doc_decodes ≡ min 1 info.doc_freq
  pub freq_decodes : cursor.freq_decodes ≡ first_decodes cursor.freqs info.doc_freq
  pub entries_read : cursor.entries_read ≡ min 1 (info.doc_freq / 128)
  pub checked : cursor.checked ≡ counts_checked validation cursor.freq_reading info.doc_freq

-- A reader holds the tokens of a field: their number, exactly the keys that occurred, and their postings.
pub record ReaderHolds (field : ℕ) (reader : InvertedIndexReaderState) (ts : List IndexToken) : Type 0 where
  pub counted : reader.num_tokens ≡ field_count field ts
  pub exact : (key : List ℕ) → MatchOption (info_under key reader.terms) (occurs field key ts ≡ false) (HoldsTerm reader.option field key reader.postings reader.positions ts)

-- The list of a term is this one; reading it fails only with `OutOfMemory`.
abbrev pub GivesList : List Entry → Result SegmentPostingsState Fault → Type 0
GivesList es (Ok cursor) = cursor.rest ≡ es
GivesList es (Err fault) = fault ≡ OutOfMemory

-- The list of a term replaced that of a cursor; this fails only with `OutOfMemory`.
abbrev pub PutsList : {A : Type 0} → List Entry → Result A Fault → SegmentPostingsState → Type 0
PutsList es (Ok done) cursor = cursor.rest ≡ es
PutsList es (Err fault) cursor = fault ≡ OutOfMemory

-- A key gives its postings, or `None` exactly if it didn't occur; reading fails only with `OutOfMemory`.
abbrev pub GivesPostings : IndexRecordOption → ℕ → List ℕ → IndexRecordOption → List IndexToken → Result (Option SegmentPostingsState) Fault → Type 0
GivesPostings option field key requested ts (Ok None) = occurs field key ts ≡ false
GivesPostings option field key requested ts (Ok (Some cursor)) = IsTrue (occurs field key ts) × (cursor.rest ≡ key_postings option field key requested ts)
GivesPostings option field key requested ts (Err fault) = fault ≡ OutOfMemory

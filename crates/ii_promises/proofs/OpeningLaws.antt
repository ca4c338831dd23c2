-- An index that is opened, also without norms, and ranges that lie outside of it.
use Rattle.std.proofs.Common.{inl, inr, ◌≡◌, ◌∙◌, ◌&&◌, ◌||◌, ℕ, ◌<◌, Bool, true, false, not, List, [], length, nat_le, Result, Ok, Err, refl, sym, ap}
use Rattle.std.specs.Prelude.{◌⊎◌, IfOk}
use Rattle.std.proofs.lemmas.Bool.{lt-leb, leb-false}
use Rattle.ii_base.specs.declared.schema.index_record_option.IndexRecordOption.{IndexRecordOption}
use Rattle.ii_base.specs.declared.schema.index_record_option.IndexRecordOption.TheVariants.{Basic, WithFreqs, WithFreqsAndPositions}
use Rattle.ii_base.specs.Options.{downgrade, has_positions}
use Rattle.ii_io.specs.Parts.{◌>>=◌}
use Rattle.ii_io.specs.declared.faults.Fault.{Fault}
use Rattle.ii_io.specs.declared.faults.Part.{Part}
use Rattle.ii_base.specs.Schema.{SchemaEntry}
use Rattle.ii_termstore.specs.declared.term_info.TermInfo.{TermInfo}
use Rattle.ii_definitions.specs.Tokens.{IndexToken}
use Rattle.ii_reader.specs.InvertedIndexReader.{InvertedIndexReaderState, lies_in, ranges_lie}
use Rattle.ii_reader.specs.OpenIndex.{GivesReaders, IndexBodies, OpenIndexState, ReadersHold, field_readers, index_bodies, index_of_terms}

pub readers_given : (entries : List SchemaEntry) (ts : List IndexToken) (answer : Result OpenIndexState Fault) → GivesReaders entries ts answer → IfOk answer (λ index. ReadersHold entries index.readers ts)
readers_given entries ts (Ok index) readers = readers
readers_given entries ts (Err fault) readers = tt

-- what is well
abbrev fine : OpenIndexState → Result OpenIndexState Part
fine index = Ok index

abbrev with_readers : Result (List InvertedIndexReaderState) Part → Result OpenIndexState Part
with_readers found = found >>= λ (readers : List InvertedIndexReaderState). Ok (record { readers = readers; fieldnorms = [] })

by_readers : (found : Result (List InvertedIndexReaderState) Part) (index : OpenIndexState) → with_readers found ≡ Ok index → index.fieldnorms ≡ []
by_readers (Ok readers) index is = sym (ap (λ (i : OpenIndexState). i.fieldnorms) (inside (record { readers = readers; fieldnorms = [] }) is))
  where
    inside : (i : OpenIndexState) → fine i ≡ Ok index → i ≡ index
    inside i e = cc
by_readers (Err part) index is = absurd (cc)

by_tables : (tables : Result IndexBodies Part) (entries : List SchemaEntry) (index : OpenIndexState) → (tables >>= λ (bodies : IndexBodies). with_readers (field_readers bodies entries)) ≡ Ok index → index.fieldnorms ≡ []
by_tables (Ok bodies) entries index is = by_readers (field_readers bodies entries) index is
by_tables (Err part) entries index is = absurd (cc)

pub no_norms : (terms postings positions : List ℕ) (entries : List SchemaEntry) (answer : Result OpenIndexState Fault) → IfOk answer (λ index. index_of_terms terms postings positions entries ≡ Ok index) → IfOk answer (λ index. index.fieldnorms ≡ [])
no_norms terms postings positions entries (Ok index) is = by_tables (index_bodies terms postings positions) entries index is
no_norms terms postings positions entries (Err fault) is = tt

-- a range that isn't within bytes ends before it begins, or behind them
outside_of : (bytes : List ℕ) (start end : ℕ) → (nat_le start end && nat_le end (length bytes)) ≡ false → (end < start) ⊎ (length bytes < end)
outside_of bytes start end not_in = by (nat_le start end) refl not_in
  where
    by : (t : Bool) → nat_le start end ≡ t → (t && nat_le end (length bytes)) ≡ false → (end < start) ⊎ (length bytes < end)
    by true test rest = inr (leb-false end (length bytes) rest)
    by false test rest = inl (leb-false start end test)

not_within : (bytes : List ℕ) (start end : ℕ) → (end < start) ⊎ (length bytes < end) → (nat_le start end && nat_le end (length bytes)) ≡ false
not_within bytes start end (inl before) = rw (lt-leb start end before) refl
not_within bytes start end (inr behind) = by (nat_le start end)
  where
    by : (t : Bool) → (t && nat_le end (length bytes)) ≡ false
    by true = lt-leb end (length bytes) behind
    by false = refl

-- documents alone have no range of positions
documents_alone : (reader : InvertedIndexReaderState) (info : TermInfo) → ranges_lie reader Basic info ≡ lies_in reader.postings info.postings_range
documents_alone reader info = by reader.option (lies_in reader.postings info.postings_range)
  where
    by : (option : IndexRecordOption) (t : Bool) → (t && (not (has_positions (downgrade option Basic)) || lies_in reader.positions info.positions_range)) ≡ t
    by Basic true = refl
    by Basic false = refl
    by WithFreqs true = refl
    by WithFreqs false = refl
    by WithFreqsAndPositions true = refl
    by WithFreqsAndPositions false = refl

pub no_range_outside : (reader : InvertedIndexReaderState) (info : TermInfo) → ranges_lie reader Basic info ≡ false → (info.postings_range.end < info.postings_range.start) ⊎ (length reader.postings < info.postings_range.end)
no_range_outside reader info outside = outside_of reader.postings info.postings_range.start info.postings_range.end (sym (documents_alone reader info) ∙ outside)

pub range_outside : (reader : InvertedIndexReaderState) (info : TermInfo) → (info.postings_range.end < info.postings_range.start) ⊎ (length reader.postings < info.postings_range.end) → ranges_lie reader Basic info ≡ false
range_outside reader info outside = documents_alone reader info ∙ not_within reader.postings info.postings_range.start info.postings_range.end outside

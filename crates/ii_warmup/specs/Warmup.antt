-- A small index in memory that has of another one what is requested.
use Rattle.std.specs.Prelude.{◌≡◌, ℕ, Bool, true, ◌&&◌, ◌||◌, not, List, Option, None, Some, map}
use Rattle.std.specs.List.{filter_map, list_all}
use Rattle.std.specs.Option.{option_map}
use Rattle.std.specs.declared.ops.Range.{Range}
use Rattle.ii_base.specs.Options.{downgrade, has_positions}
use Rattle.ii_base.specs.declared.schema.index_record_option.IndexRecordOption.{IndexRecordOption}
use Rattle.ii_termstore.specs.declared.term_info.TermInfo.{TermInfo}
use Rattle.ii_termdict.specs.Dictionary.{TermEntry}
use Rattle.ii_definitions.specs.Files.{bytes_in}
use Rattle.ii_reader.specs.InvertedIndexReader.{InvertedIndexReaderState, lies_in, reader_over}
use Rattle.ii_warmup.specs.CopiedTerms.{CopiedTermsState, with_copy}
use Rattle.ii_warmup.specs.declared.wanted_terms.WantedTerm.{WantedTerm}
use Rattle.std.specs.Prelude.{false, IfOk, IsErrOf, Result}
use Rattle.ii_io.specs.declared.faults.Fault.TheVariants as faults
use Rattle.ii_io.specs.declared.faults.Part.TheVariants as parts
use Rattle.ii_termstore.specs.TermInfos.{is_sound}
use Rattle.ii_warmup.specs.Parts.{IsPartOf}
use Rattle.ii_file_slice.specs.declared.faults.FileFault.{FileFault}
use Rattle.ii_file_slice.specs.declared.faults.FileFault.TheVariants.{Index}

-- a wanted term: its key, its info, and what is requested of its postings
pub record WantedTermState : Type 0 where
  pub key : List ℕ
  pub info : TermInfo
  pub option : IndexRecordOption

-- the model of a wanted term
abbrev pub wanted_view : WantedTerm → WantedTermState
wanted_view t = record { key = t.key.items; info = t.info; option = t.option }

-- the keys of wanted terms
abbrev pub wanted_keys : List WantedTerm → List (List ℕ)
wanted_keys ts = map (λ (t : WantedTerm). t.key.items) ts

-- the wanted terms of a dictionary, given what is requested of each key
abbrev pub wanted_entries : (List ℕ → Option IndexRecordOption) → List TermEntry → List WantedTermState
wanted_entries requested entries = filter_map (λ (e : TermEntry). option_map (λ (o : IndexRecordOption). record { key = e.0; info = e.1; option = o }) (requested e.0)) entries

-- Bytes are those of a range, which lies within known bytes.
pub record IsRangeOf (known : Option (List ℕ)) (range : Range ℕ) (read : List ℕ) : Type 0 where
  pub lies : (bs : List ℕ) → known ≡ Some bs → lies_in bs range ≡ true
  pub same : (bs : List ℕ) → known ≡ Some bs → read ≡ bytes_in bs range

-- whether the positions of a term are read, in a field with an option
abbrev pub reads_positions_of : IndexRecordOption → WantedTermState → Bool
reads_positions_of option term = has_positions (downgrade option term.option)

-- A term was copied out of bodies, where they are known.
pub record CopiesTerm (option : IndexRecordOption) (postings positions : Option (List ℕ)) (term : WantedTermState) (old new : CopiedTermsState) : Type 0 where
  pub of_docs : List ℕ
  pub of_positions : List ℕ
  pub copied : new ≡ with_copy old term.key term.info.doc_freq of_docs of_positions
  pub docs_are : IsRangeOf postings term.info.postings_range of_docs
  pub positions_are : reads_positions_of option term ≡ true → IsRangeOf positions term.info.positions_range of_positions

-- whether the ranges of a term lie within the bodies of its field; that of positions only counts if they are read
abbrev pub do_ranges_lie : IndexRecordOption → List ℕ → List ℕ → WantedTermState → Bool
do_ranges_lie option postings positions term = lies_in postings term.info.postings_range && (not (reads_positions_of option term) || lies_in positions term.info.positions_range)

-- the reader over a dictionary and two bodies, if these are known and begin with the number of tokens
abbrev pub known_reader : List TermEntry → Option (List ℕ) → Option (List ℕ) → IndexRecordOption → Option InvertedIndexReaderState
known_reader terms None positions option = None
known_reader terms (Some postings) None option = None
known_reader terms (Some postings) (Some positions) option = reader_over terms postings positions option

-- whether the ranges of each wanted term lie within the bodies of a reader
abbrev pub all_lie : (List ℕ → Option IndexRecordOption) → InvertedIndexReaderState → Bool
all_lie requested whole = list_all (do_ranges_lie whole.option whole.postings whole.positions) (wanted_entries requested whole.terms)

-- whether each range of each wanted term begins at or before its end and has fewer than 2^32 bytes
abbrev pub all_sound : (List ℕ → Option IndexRecordOption) → List TermEntry → Bool
all_sound requested terms = list_all (λ (t : WantedTermState). is_sound t.info) (wanted_entries requested terms)

-- A part of a reader was made, or the ranges of a wanted term don't lie within the bodies, or another fault came.
pub record WarmsUp (requested : List ℕ → Option IndexRecordOption) (whole : InvertedIndexReaderState) (result : Result InvertedIndexReaderState FileFault) : Type 0 where
  pub part : IfOk result (λ (part : InvertedIndexReaderState). IsPartOf requested part whole)
  pub range : IsErrOf result (Index (faults.Damaged parts.Range)) → all_lie requested whole ≡ false

-- Worked rows, each computed.
use Rattle.std.specs.Prelude.{◌≡◌, [], ◌∷◌, ◌++◌, List, Ok, Err, None, Some, replicate, true, false, refl}
use Rattle.ii_io.specs.declared.faults.Part.TheVariants.{Composite, Dictionary, Documents, Range, TokenCount}
use Rattle.ii_io.specs.Vints.{u32_at}
use Rattle.ii_base.specs.declared.schema.index_record_option.IndexRecordOption.TheVariants.{Basic, WithFreqs, WithFreqsAndPositions}
use Rattle.ii_base.specs.Schema as Schema
use Rattle.ii_base.specs.declared.schema.value_type.ValueType.TheVariants.{U64}
use Rattle.ii_io.specs.Numbers.{number_at}
use Rattle.ii_termstore.specs.declared.term_info.TermInfo.{TermInfo}
use Rattle.ii_termstore.specs.TermInfos.{term_info_from}
use Rattle.ii_termstore.specs.TermStore.{store_parts, term_store}
use Rattle.ii_termdict.specs.Dictionary.{dictionary, end_of, key_parts, keys_at}
use Rattle.ii_check.specs.declared.validation.Validation.TheVariants.{Complete}
use Rattle.ii_reader.specs.Damage.{damaged_term, damaged_terms, first_damaged_field}
use Rattle.ii_reader.specs.InvertedIndexReader.{InvertedIndexReaderState, docs_of_file, reader_of_none, reader_over, term_of_file}
use Rattle.ii_reader.specs.OpenIndex.{all_or_first, index_of_files, reader_if, reader_of_bodies}
use Rattle.ii_base.specs.Entries.{document}
use Rattle.ii_layout.specs.TermList.{docs_and_freqs, term_list}
use Rattle.ii_check.specs.declared.freq_reading_option.FreqReadingOption.TheVariants.{NoFreq}
use Rattle.ii_check.specs.FreqReading.{freq_reading}
use Rattle.ii_reader.specs.LoadedPostings.{IsEndOf, entries_held, loaded, num_positions}

-- documents alone
pub row_three : term_list Basic Basic 3 (0x80 ∷ 0x82 ∷ 0x88 ∷ []) None ≡ Ok (document 0 ∷ document 2 ∷ document 10 ∷ [])
unfolding u32_at
row_three = refl

-- a text with two counts, and a number, which has none
pub row_text : docs_and_freqs WithFreqsAndPositions WithFreqsAndPositions 1 (0x80 ∷ 0x82 ∷ []) ≡ Ok (0 ∷ [], Some (2 ∷ []))
unfolding u32_at
row_text = refl

pub row_number : docs_and_freqs WithFreqsAndPositions WithFreqsAndPositions 1 (0x80 ∷ []) ≡ Ok (0 ∷ [], None)
unfolding u32_at
row_number = refl

pub row_number_reading : freq_reading WithFreqsAndPositions WithFreqsAndPositions 1 (0x80 ∷ []) ≡ Ok NoFreq
unfolding u32_at
row_number_reading = refl

-- a document that comes twice
pub row_twice : docs_and_freqs Basic Basic 2 (0x80 ∷ 0x80 ∷ []) ≡ Err Documents
unfolding u32_at
row_twice = refl

-- two documents in memory, and what is loaded of documents without positions
pub row_held : entries_held (0 ∷ 3 ∷ []) (0 ∷ 3 ∷ 4 ∷ []) (1 ∷ 2 ∷ 3 ∷ 30 ∷ []) ≡ record { doc = 0; term_freq = 3; positions = 1 ∷ 2 ∷ 3 ∷ [] } ∷ record { doc = 3; term_freq = 1; positions = 30 ∷ [] } ∷ []
row_held = refl

pub row_loaded : loaded (document 2 ∷ document 10 ∷ []) ≡ record { doc = 2; term_freq = 0; positions = [] } ∷ record { doc = 10; term_freq = 0; positions = [] } ∷ []
row_loaded = refl

pub row_positions : num_positions (record { doc = 0; term_freq = 3; positions = 1 ∷ 2 ∷ 3 ∷ [] } ∷ record { doc = 3; term_freq = 1; positions = 30 ∷ [] } ∷ []) ≡ 4
row_positions = refl

pub row_end : IsEndOf (document 0 ∷ document 2 ∷ document 10 ∷ []) (document 10 ∷ [])
row_end = refl

-- a term in documents 0 and 2 whose bytes follow another byte, in a field without positions
abbrev plain_info : TermInfo
plain_info = term_info_from 2 1 3 9 1

abbrev plain_reader : InvertedIndexReaderState
plain_reader = record { terms = []; postings = 0xFF ∷ 0x80 ∷ 0x82 ∷ []; positions = []; option = Basic; num_tokens = 2; validation = Complete }

pub row_file_list : term_of_file plain_reader WithFreqsAndPositions plain_info ≡ Ok (document 0 ∷ document 2 ∷ [])
unfolding u32_at
row_file_list = refl

-- its range ends past the body, or begins after its end
pub row_past : term_of_file plain_reader Basic (term_info_from 2 1 4 0 0) ≡ Err Range
row_past = refl

pub row_turned : docs_of_file (plain_reader.postings) Basic Basic (term_info_from 2 3 1 0 0) ≡ Err Range
row_turned = refl

-- where positions are read, their range has to lie in the body too
pub row_positions_past : term_of_file (record plain_reader { option = WithFreqsAndPositions }) WithFreqsAndPositions plain_info ≡ Err Range
row_positions_past = refl

pub row_positions_unread : term_of_file (record plain_reader { option = WithFreqsAndPositions }) Basic plain_info ≡ Ok (document 0 ∷ document 2 ∷ [])
unfolding u32_at
row_positions_unread = refl

-- the bodies of a field with one token in document 0, and a body that is too short
pub row_tokens : reader_over [] (1 ∷ replicate 7 0 ++ 0x80 ∷ []) [] Basic ≡ Some (record { terms = []; postings = 0x80 ∷ []; positions = []; option = Basic; num_tokens = 1; validation = Complete })
unfolding number_at
row_tokens = refl

pub row_short : reader_of_bodies Basic (replicate 24 0) (replicate 7 0) [] ≡ Err TokenCount
unfolding dictionary keys_at key_parts end_of number_at term_store store_parts
row_short = refl

-- the dictionary comes first
pub row_dictionary : reader_of_bodies Basic (replicate 7 0) (replicate 7 0) [] ≡ Err Dictionary
unfolding dictionary keys_at key_parts number_at
row_dictionary = refl

-- a body that is missing in one other file, and one that is missing in the file of terms
pub row_lacking : reader_if Basic (Some []) None (Some []) ≡ Err Composite
row_lacking = refl

pub row_no_terms : reader_if WithFreqs None (Some []) None ≡ Ok (reader_of_none WithFreqs)
row_no_terms = refl

-- the first field that fails
pub row_first : all_or_first {A = InvertedIndexReaderState} (Ok plain_reader ∷ Err Composite ∷ Err TokenCount ∷ []) ≡ Err Composite
row_first = refl

-- four files without bodies
abbrev one_field : List Schema.SchemaEntry
one_field = record { name = []; value_type = U64; option = Basic; is_indexed = true; has_fieldnorms = false; expands_dots = false } ∷ []

pub row_no_files : index_of_files (replicate 4 0) (replicate 4 0) (replicate 4 0) (replicate 4 0) one_field ≡ Ok (record { readers = reader_of_none Basic ∷ []; fieldnorms = [] })
unfolding number_at
row_no_files = refl

-- a table that is cut, of postings or of norms
pub row_cut : index_of_files (replicate 4 0) (replicate 3 0) (replicate 4 0) (replicate 4 0) one_field ≡ Err Composite
unfolding number_at
row_cut = refl

pub row_norms_cut : index_of_files (replicate 4 0) (replicate 4 0) (replicate 4 0) (replicate 3 0) one_field ≡ Err Composite
unfolding number_at
row_norms_cut = refl

-- three terms, the last two of which have ranges that don't lie in the body
abbrev damaged_reader : InvertedIndexReaderState
damaged_reader = record plain_reader { terms = (1 ∷ [], plain_info) ∷ (2 ∷ [], term_info_from 2 1 4 0 0) ∷ (3 ∷ [], term_info_from 2 3 1 0 0) ∷ [] }

pub row_damaged : damaged_terms damaged_reader ≡ damaged_term 1 Range ∷ damaged_term 2 Range ∷ []
unfolding u32_at
row_damaged = refl

-- the first field with a damaged term, with the first one
pub row_first_damaged : first_damaged_field (plain_reader ∷ damaged_reader ∷ damaged_reader ∷ []) ≡ Some (1, damaged_term 1 Range)
unfolding u32_at
row_first_damaged = refl

pub row_no_damage : first_damaged_field (plain_reader ∷ plain_reader ∷ []) ≡ None
row_no_damage = refl

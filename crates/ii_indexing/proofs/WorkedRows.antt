-- Worked rows, each computed.
use Rattle.std.specs.Prelude.{◌≡◌, ℕ, List, [], ◌∷◌, ◌++◌, codes, length, replicate, true, false, None, Some, refl}
use Rattle.ii_io.specs.declared.faults.Fault.TheVariants.{DecreasingPosition, Limit}
use Rattle.ii_io.specs.declared.faults.LimitName.TheVariants as limit
use Rattle.ii_io.specs.Composite.{place_bytes, written_composite}
use Rattle.ii_io.specs.Numbers.{le_bytes}
use Rattle.ii_base.specs.Schema.{SchemaEntry}
use Rattle.ii_base.specs.declared.schema.value_type.ValueType.TheVariants.{Str}
use Rattle.ii_base.specs.declared.schema.index_record_option.IndexRecordOption.TheVariants.{WithFreqs, WithFreqsAndPositions}
use Rattle.ii_base.specs.AsciiWords.{ascii_words}
use Rattle.ii_base.specs.Values.{u64_bytes}
use Rattle.ii_base.specs.Words.{Word}
use Rattle.ii_base.specs.Entries.{Entry, document}
use Rattle.ii_fieldnorm.specs.Norms.{id_of_norm, norm_of_id}
use Rattle.ii_definitions.specs.Norms.{norm_file, norm_ids}
use Rattle.ii_definitions.specs.Tokens.{Call, IndexToken, pieces_of, text, words, value, tokens_of}
use Rattle.ii_definitions.specs.Postings.{doc_count, field_count, key_postings}
use Rattle.ii_indexing.specs.Refusals.{call_fault}

abbrev text_of : ℕ → List ℕ → Call
text_of field t = record { doc = 0; field = field; content = text t }

abbrev at : List ℕ → Entry
at positions = record { doc = 0; term_freq = length positions; positions = positions }

abbrev word : List ℕ → ℕ → ℕ → Word
word t position covers = record { offset_from = 0; offset_to = 0; position = position; text = t; position_length = covers }

abbrev words_at : ℕ → List Word → Call
words_at doc ws = record { doc = doc; field = 0; content = words ws }

-- three texts of a document, the second one empty
abbrev three : List IndexToken
three = tokens_of ascii_words (text_of 0 (codes "a b") ∷ text_of 0 [] ∷ text_of 0 (codes "a") ∷ [])

pub three_a : key_postings WithFreqsAndPositions 0 (codes "a") WithFreqsAndPositions three ≡ at (0 ∷ 4 ∷ []) ∷ []
three_a = refl

pub three_b : key_postings WithFreqsAndPositions 0 (codes "b") WithFreqsAndPositions three ≡ at (1 ∷ []) ∷ []
three_b = refl

pub three_count : field_count 0 three ≡ 3
three_count = refl

-- two texts of a document
abbrev two : List IndexToken
two = tokens_of ascii_words (text_of 0 (codes "a b a c a d a a.") ∷ text_of 0 (codes "d d d d a") ∷ [])

pub two_a : key_postings WithFreqsAndPositions 0 (codes "a") WithFreqsAndPositions two ≡ at (0 ∷ 2 ∷ 4 ∷ 6 ∷ 7 ∷ 13 ∷ []) ∷ []
two_a = refl

pub two_d : key_postings WithFreqsAndPositions 0 (codes "d") WithFreqsAndPositions two ≡ at (5 ∷ 9 ∷ 10 ∷ 11 ∷ 12 ∷ []) ∷ []
two_d = refl

pub two_count : doc_count 0 0 two ≡ 13
two_count = refl

-- a text of another field between two
pub other_field : key_postings WithFreqsAndPositions 0 (codes "a") WithFreqsAndPositions (tokens_of ascii_words (text_of 0 (codes "a") ∷ text_of 1 (codes "b") ∷ text_of 0 (codes "a") ∷ [])) ≡ at (0 ∷ 2 ∷ []) ∷ []
other_field = refl

-- positions that fall, where counts are recorded, or in another document
pub falling_counts : call_fault ascii_words WithFreqs [] (words_at 0 (word (codes "a") 5 1 ∷ word (codes "a") 4 1 ∷ [])) ≡ None
falling_counts = refl

pub falling_count : key_postings WithFreqs 0 (codes "a") WithFreqsAndPositions (tokens_of ascii_words (words_at 0 (word (codes "a") 5 1 ∷ word (codes "a") 4 1 ∷ []) ∷ [])) ≡ record { doc = 0; term_freq = 2; positions = [] } ∷ []
falling_count = refl

pub falling_documents : call_fault ascii_words WithFreqsAndPositions (pieces_of ascii_words (words_at 0 (word (codes "a") 5 1 ∷ []) ∷ [])) (words_at 1 (word (codes "a") 0 1 ∷ [])) ≡ None
falling_documents = refl

pub falling_positions : call_fault ascii_words WithFreqsAndPositions [] (words_at 0 (word (codes "a") 5 1 ∷ word (codes "a") 4 1 ∷ [])) ≡ Some DecreasingPosition
falling_positions = refl

pub equal_positions : call_fault ascii_words WithFreqsAndPositions [] (words_at 0 (word (codes "a") 5 1 ∷ word (codes "a") 5 1 ∷ [])) ≡ None
equal_positions = refl

pub equal_positions_kept : key_postings WithFreqsAndPositions 0 (codes "a") WithFreqsAndPositions (tokens_of ascii_words (words_at 0 (word (codes "a") 5 1 ∷ word (codes "a") 5 1 ∷ []) ∷ [])) ≡ at (5 ∷ 5 ∷ []) ∷ []
equal_positions_kept = refl

-- the last position of 32 bits
pub last_position : call_fault ascii_words WithFreqsAndPositions [] (words_at 0 (word (codes "a") 4294967295 0 ∷ [])) ≡ Some (Limit limit.Position)
last_position = refl

-- a word that is too long, at a position that doesn't fit
pub long_word : tokens_of ascii_words (words_at 0 (word (replicate 65531 65) 18446744073709551615 1 ∷ word (codes "hello") 1 1 ∷ []) ∷ []) ≡ record { doc = 0; field = 0; key = codes "hello"; position = 1; of_text = true } ∷ []
long_word = refl

pub long_word_passes : call_fault ascii_words WithFreqsAndPositions [] (words_at 0 (word (replicate 65531 65) 18446744073709551615 1 ∷ [])) ≡ None
long_word_passes = refl

pub longest_word : field_count 0 (tokens_of ascii_words (words_at 0 (word (replicate 65530 65) 0 1 ∷ []) ∷ [])) ≡ 1
longest_word = refl

-- a number
pub number : key_postings WithFreqsAndPositions 0 (u64_bytes 5) WithFreqsAndPositions (tokens_of ascii_words (record { doc = 0; field = 0; content = value (u64_bytes 5) } ∷ [])) ≡ document 0 ∷ []
number = refl

-- the norms of two documents, of which the first has three tokens
pub three_norms : norm_ids 2 0 three ≡ 3 ∷ 0 ∷ []
unfolding id_of_norm norm_of_id
three_norms = refl

-- the file of norms of two documents, of one field of texts
abbrev titles : SchemaEntry
titles = record { name = codes "title"; value_type = Str; option = WithFreqsAndPositions; is_indexed = true; has_fieldnorms = true; expands_dots = false }

pub two_documents : written_composite (norm_file (titles ∷ []) 2 (tokens_of ascii_words (text_of 0 (codes "a b") ∷ record (text_of 0 (codes "a")) { doc = 1 } ∷ []))) ≡ 2 ∷ 1 ∷ replicate 12 0 ++ 2 ∷ replicate 7 0 ++ 1 ∷ replicate 3 0
unfolding id_of_norm norm_of_id place_bytes le_bytes
two_documents = refl

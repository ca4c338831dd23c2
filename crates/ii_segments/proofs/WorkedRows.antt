-- Computed examples of merged segments and of deleted documents.
use Rattle.std.proofs.Common.{◌≡◌, ℕ, Bool, true, false, List, [], ◌∷◌, codes, map, refl}
use Rattle.std.specs.List.{range_with_len}
use Rattle.ii_base.specs.declared.schema.index_record_option.IndexRecordOption.TheVariants.{Basic, WithFreqsAndPositions}
use Rattle.ii_base.specs.Entries.{Entry}
use Rattle.ii_fieldnorm.specs.Norms.{id_of_norm, norm_of_id}
use Rattle.ii_definitions.specs.Norms.{norm_ids}
use Rattle.ii_definitions.specs.Postings.{field_count, key_postings, occurs}
use Rattle.ii_definitions.specs.Tokens.{IndexToken}
use Rattle.ii_segments.specs.Segments.{Segment, index_tokens, merged, num_docs_of}

-- a word of a text in field 0
abbrev word : ℕ → ℕ → List ℕ → IndexToken
word doc position text = record { doc = doc; field = 0; key = text; position = position; of_text = true }

-- a value in field 0
abbrev value : ℕ → List ℕ → IndexToken
value doc key = record { doc = doc; field = 0; key = key; position = 0; of_text = false }

abbrev entry : ℕ → ℕ → List ℕ → Entry
entry doc term_freq positions = record { doc = doc; term_freq = term_freq; positions = positions }

abbrev segment : List Bool → List IndexToken → Segment
segment alive tokens = record { alive = alive; tokens = tokens }

-- the postings of a text's word
abbrev postings_of : List ℕ → List Segment → List Entry
postings_of text ss = key_postings WithFreqsAndPositions 0 text WithFreqsAndPositions (index_tokens ss)

-- "a b" in a segment, "b" in another one
abbrev two : List Segment
two = segment (true ∷ []) (word 0 0 (codes "a") ∷ word 0 1 (codes "b") ∷ []) ∷ segment (true ∷ []) (word 0 0 (codes "b") ∷ []) ∷ []

pub both_segments : postings_of (codes "b") two ≡ entry 0 1 (1 ∷ []) ∷ entry 1 1 (0 ∷ []) ∷ []
both_segments = refl

pub both_merged : postings_of (codes "b") (merged two ∷ []) ≡ entry 0 1 (1 ∷ []) ∷ entry 1 1 (0 ∷ []) ∷ []
both_merged = refl

-- "a", "a b" and "b", of which the second is deleted
abbrev second_deleted : List Segment
second_deleted =
    segment (true ∷ false ∷ true ∷ []) (word 0 0 (codes "a") ∷ word 1 0 (codes "a") ∷ word 1 1 (codes "b") ∷ word 2 0 (codes "b") ∷ []) ∷ []

pub first_word : postings_of (codes "a") second_deleted ≡ entry 0 1 (0 ∷ []) ∷ []
first_word = refl

pub second_word : postings_of (codes "b") second_deleted ≡ entry 1 1 (0 ∷ []) ∷ []
second_word = refl

pub second_word_merged : postings_of (codes "b") (merged second_deleted ∷ []) ≡ entry 1 1 (0 ∷ []) ∷ []
second_word_merged = refl

pub tokens_left : field_count 0 (index_tokens (merged second_deleted ∷ [])) ≡ 2
tokens_left = refl

pub norms_left : norm_ids (num_docs_of second_deleted) 0 (index_tokens second_deleted) ≡ 1 ∷ 1 ∷ []
unfolding id_of_norm norm_of_id
norms_left = refl

-- "a" and "b", of which the first is deleted: its key is gone
abbrev first_deleted : List Segment
first_deleted = segment (false ∷ true ∷ []) (word 0 0 (codes "a") ∷ word 1 0 (codes "b") ∷ []) ∷ []

pub key_is_gone : occurs 0 (codes "a") (index_tokens first_deleted) ≡ false
key_is_gone = refl

pub other_key_stays : occurs 0 (codes "b") (index_tokens first_deleted) ≡ true
other_key_stays = refl

-- a value twice, and once in another segment: no counts of it are kept
abbrev values : List Segment
values = segment (true ∷ []) (value 0 (1 ∷ []) ∷ value 0 (1 ∷ []) ∷ []) ∷ segment (true ∷ []) (value 0 (1 ∷ []) ∷ []) ∷ []

pub value_postings : key_postings Basic 0 (1 ∷ []) WithFreqsAndPositions (index_tokens (merged values ∷ [])) ≡ entry 0 1 [] ∷ entry 1 1 [] ∷ []
value_postings = refl

pub value_tokens : field_count 0 (index_tokens (merged values ∷ [])) ≡ 3
value_tokens = refl

-- a word 41 times, and once in another segment: norms are exact up to 40
abbrev many : List Segment
many = segment (true ∷ []) (map (λ (position : ℕ). word 0 position (codes "a")) (range_with_len 0 41)) ∷ segment (true ∷ []) (word 0 0 (codes "a") ∷ []) ∷ []

pub norms_of_many : norm_ids (num_docs_of many) 0 (index_tokens (merged many ∷ [])) ≡ 40 ∷ 1 ∷ []
unfolding id_of_norm norm_of_id
norms_of_many = refl

pub tokens_of_many : field_count 0 (index_tokens (merged many ∷ [])) ≡ 42
tokens_of_many = refl

-- a text and a number under one path of a JSON field
abbrev text_key : List ℕ
text_key = 0x70 ∷ 0 ∷ 0x73 ∷ 0x61 ∷ []

abbrev number_key : List ℕ
number_key = 0x70 ∷ 0 ∷ 0x69 ∷ 0x80 ∷ 0 ∷ 0 ∷ 0 ∷ 0 ∷ 0 ∷ 0 ∷ 1 ∷ []

abbrev mixed : List Segment
mixed = segment (true ∷ []) (word 0 0 text_key ∷ word 0 1 text_key ∷ []) ∷ segment (true ∷ []) (value 0 number_key ∷ []) ∷ []

pub text_under_path : postings_of text_key (merged mixed ∷ []) ≡ entry 0 2 (0 ∷ 1 ∷ []) ∷ []
text_under_path = refl

pub number_under_path : postings_of number_key (merged mixed ∷ []) ≡ entry 1 1 [] ∷ []
number_under_path = refl

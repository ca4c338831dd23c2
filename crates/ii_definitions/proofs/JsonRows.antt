-- Worked rows of JSON values in an index, each computed.
use Rattle.std.specs.Prelude.{◌≡◌, ℕ, ◌+◌, ◌++◌, ◌^◌, [], ◌∷◌, List, codes, length, replicate, refl, Some}
use Rattle.ii_io.specs.declared.faults.LeafKind.TheVariants as kinds
use Rattle.ii_base.specs.AsciiWords.{ascii_words}
use Rattle.ii_base.specs.Json.{Leaf, text_leaf, u64_leaf, unsupported}
use Rattle.ii_base.specs.Values.{json_key, text_key, typed_key}
use Rattle.ii_base.specs.declared.schema.index_record_option.IndexRecordOption.TheVariants.{WithFreqsAndPositions}
use Rattle.ii_base.specs.declared.schema.value_type.ValueType.TheVariants as types
use Rattle.ii_base.specs.Entries.{Entry, document}
use Rattle.ii_definitions.specs.JsonKeys.{type_in}
use Rattle.ii_definitions.specs.Postings.{field_count, key_postings}
use Rattle.ii_definitions.specs.Tokens.{Call, IndexToken, leaves, tokens_of}

-- leaves of document 0 in a field
abbrev at_doc_0 : ℕ → List (List ℕ × Leaf) → Call
at_doc_0 field ls = record { doc = 0; field = field; content = leaves ls }

abbrev entry : List ℕ → Entry
entry positions = record { doc = 0; term_freq = length positions; positions = positions }

abbrev postings_at : ℕ → List ℕ → List IndexToken → List Entry
postings_at field key ts = key_postings WithFreqsAndPositions field key WithFreqsAndPositions ts

-- the names of two bands, in an array
abbrev band_name : List ℕ
band_name = codes "bands" ++ 1 ∷ codes "band_name"

abbrev bands : List IndexToken
bands = tokens_of ascii_words (at_doc_0 2 ((band_name, text_leaf (codes "Elliot Smith")) ∷ (band_name, text_leaf (codes "The Who")) ∷ []) ∷ [])

pub elliot : postings_at 2 (json_key band_name (text_key (codes "Elliot"))) bands ≡ entry (0 ∷ []) ∷ []
elliot = refl

pub smith : postings_at 2 (json_key band_name (text_key (codes "Smith"))) bands ≡ entry (1 ∷ []) ∷ []
smith = refl

pub the : postings_at 2 (json_key band_name (text_key (codes "The"))) bands ≡ entry (3 ∷ []) ∷ []
the = refl

pub who : postings_at 2 (json_key band_name (text_key (codes "Who"))) bands ≡ entry (4 ∷ []) ∷ []
who = refl

-- a number: of its documents alone, whatever the field records
abbrev five : List IndexToken
five = tokens_of ascii_words (at_doc_0 0 ((codes "n", u64_leaf 5) ∷ []) ∷ [])

abbrev key_of_five : List ℕ
key_of_five = 0x6E ∷ 0 ∷ 0x69 ∷ 0x80 ∷ replicate 6 0 ++ 5 ∷ []

pub postings_of_five : postings_at 0 key_of_five five ≡ document 0 ∷ []
postings_of_five = refl

pub type_of_five : type_in key_of_five ≡ Some types.I64
unfolding type_in
type_of_five = refl

-- two numbers, one below the other's path
abbrev two : List IndexToken
two = tokens_of ascii_words (at_doc_0 0 ((codes "a" ++ 1 ∷ codes "b", u64_leaf 1) ∷ (codes "a", u64_leaf 2) ∷ []) ∷ [])

pub count_of_two : field_count 0 two ≡ 2
count_of_two = refl

pub postings_below : postings_at 0 (json_key (codes "a" ++ 1 ∷ codes "b") (typed_key types.I64 (2 ^ 63 + 1))) two ≡ document 0 ∷ []
postings_below = refl

-- texts at one path, in two fields
abbrev texts : List IndexToken
texts =
    let x = (codes "a", text_leaf (codes "x")) ∷ [] in
    tokens_of ascii_words (at_doc_0 2 x ∷ at_doc_0 3 x ∷ at_doc_0 2 x ∷ [])

pub texts_of_one_field : postings_at 2 (json_key (codes "a") (text_key (codes "x"))) texts ≡ entry (0 ∷ 2 ∷ []) ∷ []
texts_of_one_field = refl

pub texts_of_the_other : postings_at 3 (json_key (codes "a") (text_key (codes "x"))) texts ≡ entry (0 ∷ []) ∷ []
texts_of_the_other = refl

-- a leaf that can't be indexed gives nothing
pub nothing_of_a_float : tokens_of ascii_words (at_doc_0 0 ((codes "b", unsupported kinds.Float) ∷ []) ∷ []) ≡ []
nothing_of_a_float = refl

-- Ranges in texts of queries, each computed.
use Rattle.std.specs.Prelude.{◌≡◌, ◌^◌, ◌-◌, ℕ, ℤ, pos, negsuc, true, false, List, [], ◌∷◌, ◌++◌, Option, None, Some, Ok, codes, filter, refl, replicate}
use Rattle.ii_base.specs.AsciiWords.{ascii_words}
use Rattle.ii_base.specs.Json.{Leaf, text_leaf, u64_leaf}
use Rattle.ii_base.specs.Schema.{SchemaEntry}
use Rattle.ii_base.specs.Terms.{TermState}
use Rattle.ii_base.specs.Values.{flipped, u64_bytes}
use Rattle.ii_base.specs.declared.schema.index_record_option.IndexRecordOption.TheVariants.{Basic}
use Rattle.ii_base.specs.declared.schema.value_type.ValueType.{ValueType}
use Rattle.ii_base.specs.declared.schema.value_type.ValueType.TheVariants as types
use Rattle.ii_definitions.specs.Tokens.{Call, IndexToken, leaves, text, tokens_of, value}
use Rattle.ii_query_grammar.specs.Lexemes.{tokens}
use Rattle.ii_query_grammar.specs.Trees.{inclusive, exclusive, unbounded}
use Rattle.ii_query_grammar.specs.declared.parse_error.Expected.TheVariants.{RangeEnd}
use Rattle.ii_query_parser.specs.Ranges.{KeyRange, KeyRanges}
use Rattle.ii_query_parser.specs.QueryTexts.{AnalyzedFields, range_keys, text_matches_by, text_refusal_by}
use Rattle.ii_query_parser.specs.declared.query_parser_error.QueryParserError.{QueryParserError}
use Rattle.ii_query_parser.specs.declared.query_parser_error.QueryParserError.TheVariants as errors

abbrev entry : List ℕ → ValueType → SchemaEntry
entry name type = record { name = name; value_type = type; option = Basic; is_indexed = true; has_fieldnorms = false; expands_dots = false }

abbrev pub fields : AnalyzedFields
fields = record {
  texts = record {
    analyze = λ field. ascii_words;
    entries = entry (codes "n") types.I64 ∷ entry (codes "body") types.Str ∷ entry (codes "j") types.Json ∷ entry (codes "ip") types.IpAddr ∷ entry (codes "mark") types.Bytes ∷ [];
  };
  prefixes = λ field. ascii_words;
  defaults = 1 ∷ [];
}

abbrev number : ℕ → ℤ → Call
number doc n = record { doc = doc; field = 0; content = value (u64_bytes (flipped n)) }

abbrev said : ℕ → List ℕ → Call
said doc words = record { doc = doc; field = 1; content = text words }

-- three numbers; words that start alike
abbrev values : List IndexToken
values = tokens_of ascii_words (number 0 (negsuc 4) ∷ number 1 (pos 0) ∷ number 2 (pos 7) ∷ said 0 (codes "sea") ∷ said 1 (codes "search") ∷ said 2 (codes "set") ∷ said 3 (codes "sf") ∷ [])

abbrev pub docs_of : List ℕ → List ℕ
docs_of query = filter (λ (doc : ℕ). text_matches_by fields query values doc) (0 ∷ 1 ∷ 2 ∷ 3 ∷ 4 ∷ [])

abbrev pub refusal_of : List ℕ → Option QueryParserError
refusal_of query = text_refusal_by fields query

abbrev up_to_excluded : docs_of (codes "n:[-5 TO 7}") ≡ 0 ∷ 1 ∷ []
unfolding tokens
up_to_excluded = refl

abbrev from_excluded : docs_of (codes "n:{-5 TO *]") ≡ 1 ∷ 2 ∷ []
unfolding tokens
from_excluded = refl

abbrev at_least : docs_of (codes "n:>=7") ≡ 2 ∷ []
unfolding tokens
at_least = refl

abbrev less_than : docs_of (codes "n:<0") ≡ 0 ∷ []
unfolding tokens
less_than = refl

abbrev upside_down : docs_of (codes "n:[7 TO 0]") ≡ []
unfolding tokens
upside_down = refl

abbrev any_number : docs_of (codes "n:*") ≡ 0 ∷ 1 ∷ 2 ∷ []
unfolding tokens
any_number = refl

abbrev any_number_between : docs_of (codes "n:[* TO *]") ≡ 0 ∷ 1 ∷ 2 ∷ []
unfolding tokens
any_number_between = refl

abbrev words_between : docs_of (codes "body:[seaa TO \"set\"]") ≡ 1 ∷ 2 ∷ []
unfolding tokens
words_between = refl

abbrev words_without : docs_of (codes "body:* AND NOT se*") ≡ 3 ∷ []
unfolding tokens
words_without = refl

abbrev prefix_of_three : docs_of (codes "se*") ≡ 0 ∷ 1 ∷ 2 ∷ []
unfolding tokens
prefix_of_three = refl

abbrev prefix_of_two : docs_of (codes "sea*") ≡ 0 ∷ 1 ∷ []
unfolding tokens
prefix_of_two = refl

abbrev all_without : docs_of (codes "* AND NOT se*") ≡ 3 ∷ 4 ∷ []
unfolding tokens
all_without = refl

-- values at paths: the greatest signed number, the number above it, this one at two other paths, and a text
abbrev leaf : ℕ → List ℕ → Leaf → Call
leaf doc path l = record { doc = doc; field = 2; content = leaves ((path, l) ∷ []) }

abbrev path_values : List IndexToken
path_values = tokens_of ascii_words (leaf 0 (codes "p") (u64_leaf (2 ^ 63 - 1)) ∷ leaf 1 (codes "p") (u64_leaf (2 ^ 63)) ∷ leaf 2 (codes "pq") (u64_leaf (2 ^ 63)) ∷ leaf 3 (codes "o") (u64_leaf (2 ^ 63)) ∷ leaf 4 (codes "p") (text_leaf (codes "z")) ∷ [])

abbrev docs_at_path : List ℕ → List ℕ
docs_at_path query = filter (λ (doc : ℕ). text_matches_by fields query path_values doc) (0 ∷ 1 ∷ 2 ∷ 3 ∷ 4 ∷ [])

abbrev integers_at_path : docs_at_path (codes "j.p:[9223372036854775807 TO *]") ≡ 0 ∷ 1 ∷ []
unfolding tokens
integers_at_path = refl

abbrev unsigned_at_path : docs_at_path (codes "j.p:>9223372036854775807") ≡ 1 ∷ []
unfolding tokens
unsigned_at_path = refl

abbrev upside_down_at_path : docs_at_path (codes "j.p:[9223372036854775808 TO 9223372036854775807]") ≡ []
unfolding tokens
upside_down_at_path = refl

abbrev words_at_path : docs_at_path (codes "j.p:[a TO *]") ≡ 4 ∷ []
unfolding tokens
words_at_path = refl

abbrev any_value_at_path : docs_at_path (codes "j.p:*") ≡ 0 ∷ 1 ∷ 4 ∷ []
unfolding tokens
any_value_at_path = refl

abbrev no_word : refusal_of (codes "body:[\"a b\" TO c]") ≡ Some (errors.UnsupportedBound 1)
unfolding tokens
no_word = refl

abbrev no_number : refusal_of (codes "n:[1 TO a]") ≡ Some (errors.ExpectedInt 0)
unfolding tokens
no_number = refl

abbrev no_end : refusal_of (codes "n:[1 TO 2") ≡ Some (errors.SyntaxError RangeEnd 9)
unfolding tokens
no_end = refl

abbrev no_field : refusal_of (codes "m:>1") ≡ Some errors.FieldDoesNotExist
unfolding tokens
no_field = refl

abbrev no_word_at_path : refusal_of (codes "j.p:[1 TO \"a b\"]") ≡ Some (errors.UnsupportedBound 2)
unfolding tokens
no_word_at_path = refl

-- one range
abbrev only : KeyRange → KeyRanges
only keys = record { first = Some keys; other = None }

-- what the keys at a path start with
abbrev at_path : List ℕ → TermState
at_path rest = record { field = 2; value = codes "p" ++ 0 ∷ rest }

-- the keys of a range of numbers, and of all values at a path
abbrev number_keys : range_keys fields.texts (record { field_name = codes "n"; lower = inclusive (codes "-5"); upper = exclusive (codes "7") })
    ≡ Ok (only (record { prefix = record { field = 0; value = [] }; lower = inclusive (0x7F ∷ replicate 6 0xFF ++ 0xFB ∷ []); upper = exclusive (0x80 ∷ replicate 6 0 ++ 7 ∷ []) }))
number_keys = refl

abbrev path_keys : range_keys fields.texts (record { field_name = codes "j.p"; lower = unbounded; upper = unbounded })
    ≡ Ok (only (record { prefix = at_path []; lower = unbounded; upper = unbounded }))
path_keys = refl

-- the greatest signed number and what is above it
abbrev integer_keys_at_path : range_keys fields.texts (record { field_name = codes "j.p"; lower = inclusive (codes "9223372036854775807"); upper = unbounded })
    ≡ Ok (record {
      first = Some (record { prefix = at_path (codes "i"); lower = inclusive (codes "p" ++ 0 ∷ codes "i" ++ replicate 8 0xFF); upper = unbounded });
      other = Some (record { prefix = at_path (codes "u"); lower = inclusive (codes "p" ++ 0 ∷ codes "u" ++ 0x7F ∷ replicate 7 0xFF); upper = unbounded });
    })
integer_keys_at_path = refl

-- no unsigned number is negative, and each is above a negative one
abbrev negative_keys_at_path : range_keys fields.texts (record { field_name = codes "j.p"; lower = exclusive (codes "-5"); upper = exclusive (codes "-4") })
    ≡ Ok (record {
      first = Some (record { prefix = at_path (codes "i"); lower = exclusive (codes "p" ++ 0 ∷ codes "i" ++ 0x7F ∷ replicate 6 0xFF ++ 0xFB ∷ []); upper = exclusive (codes "p" ++ 0 ∷ codes "i" ++ 0x7F ∷ replicate 6 0xFF ++ 0xFC ∷ []) });
      other = None;
    })
negative_keys_at_path = refl

-- words, where one bound is no integer
abbrev word_keys_at_path : range_keys fields.texts (record { field_name = codes "j.p"; lower = inclusive (codes "7"); upper = exclusive (codes "b") })
    ≡ Ok (only (record { prefix = at_path (codes "s"); lower = inclusive (codes "p" ++ 0 ∷ codes "s7"); upper = exclusive (codes "p" ++ 0 ∷ codes "sb") }))
word_keys_at_path = refl

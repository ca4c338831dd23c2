-- Texts without words in queries, each computed.
use Rattle.std.specs.Prelude.{◌≡◌, ℕ, true, false, List, [], ◌∷◌, None, Some, codes, filter, if◌then◌else◌, nat_eq, refl}
use Rattle.ii_base.specs.AsciiWords.{ascii_words}
use Rattle.ii_base.specs.Words.{Word}
use Rattle.ii_base.specs.Schema.{SchemaEntry}
use Rattle.ii_base.specs.declared.schema.index_record_option.IndexRecordOption.TheVariants.{Basic}
use Rattle.ii_base.specs.declared.schema.value_type.ValueType.{ValueType}
use Rattle.ii_base.specs.declared.schema.value_type.ValueType.TheVariants as types
use Rattle.ii_definitions.specs.Tokens.{Call, IndexToken, text, tokens_of}
use Rattle.ii_query_grammar.specs.Lexemes.{set_values, tokens}
use Rattle.ii_query_parser.specs.QueryTexts.{AnalyzedFields, text_matches_by, text_refusal_by}
use Rattle.ii_query_parser.specs.declared.query_parser_error.QueryParserError.TheVariants as errors
use Rattle.ii_query_parser.proofs.RangeRows.{docs_of, refusal_of}

abbrev of_both : docs_of (codes "sea AND ...") ≡ 0 ∷ []
unfolding tokens
of_both = refl

abbrev of_either : docs_of (codes "... OR sea") ≡ 0 ∷ []
unfolding tokens
of_either = refl

abbrev excluded : docs_of (codes "sea AND NOT ...") ≡ 0 ∷ []
unfolding tokens
excluded = refl

abbrev nested : docs_of (codes "(... OR \"-\") AND (set OR (... AND NOT sea))") ≡ 2 ∷ []
unfolding tokens
nested = refl

abbrev alone : refusal_of (codes "...") ≡ Some errors.NoWords
unfolding tokens
alone = refl

abbrev all_of_them : refusal_of (codes "... OR (\"-\" AND body:\"\")") ≡ Some errors.NoWords
unfolding tokens
all_of_them = refl

abbrev nothing_without : refusal_of (codes "... AND NOT sea") ≡ Some errors.NoWords
unfolding tokens
nothing_without = refl

-- the error of another part comes first
abbrev other_error : refusal_of (codes "... AND n:a") ≡ Some (errors.ExpectedInt 0)
unfolding tokens
other_error = refl

-- a value of a set; a set of which no value is left; one that has none
abbrev value_of_a_set : docs_of (codes "body:IN [\"-\" set]") ≡ 2 ∷ []
unfolding tokens set_values
value_of_a_set = refl

abbrev set_of_none : docs_of (codes "sea AND body:IN [\"-\"]") ≡ 0 ∷ []
unfolding tokens set_values
set_of_none = refl

abbrev empty_set : docs_of (codes "sea AND body:IN []") ≡ []
unfolding tokens set_values
empty_set = refl

-- a prefix and a bound need a word
abbrev prefix : refusal_of (codes "sea OR ...*") ≡ Some errors.NoWords
unfolding tokens
prefix = refl

abbrev bound : refusal_of (codes "sea OR body:>\"-\"") ≡ Some (errors.UnsupportedBound 1)
unfolding tokens
bound = refl

-- a field whose words are all left out, one of words, and one of JSON values whose words are all left out
abbrev words_in : ℕ → List ℕ → List Word
words_in field words = if nat_eq field 1 then ascii_words words else []

abbrev entry : ValueType → SchemaEntry
entry type = record { name = codes "a"; value_type = type; option = Basic; is_indexed = true; has_fieldnorms = false; expands_dots = false }

abbrev fields : AnalyzedFields
fields = record {
  texts = record { analyze = words_in; entries = entry types.Str ∷ entry types.Str ∷ record (entry types.Json) { name = codes "j" } ∷ [] };
  prefixes = words_in;
  defaults = 0 ∷ 1 ∷ [];
}

abbrev said : ℕ → ℕ → Call
said doc field = record { doc = doc; field = field; content = text (codes "sea") }

abbrev values : List IndexToken
values = tokens_of ascii_words (said 0 0 ∷ said 1 1 ∷ [])

-- the text stays where it has a word
abbrev in_one_field : filter (λ (doc : ℕ). text_matches_by fields (codes "sea") values doc) (0 ∷ 1 ∷ []) ≡ 1 ∷ []
unfolding tokens
in_one_field = refl

abbrev phrase_in_one_field : text_refusal_by fields (codes "\"sea sea\"") ≡ Some (errors.FieldDoesNotHavePositionsIndexed 1)
unfolding tokens
phrase_in_one_field = refl

-- a value without a word stays a value
abbrev value_at_a_path : text_refusal_by fields (codes "j.p:7") ≡ None
unfolding tokens
value_at_a_path = refl

abbrev text_at_a_path : text_refusal_by fields (codes "j.p:sea") ≡ Some errors.NoWords
unfolding tokens
text_at_a_path = refl

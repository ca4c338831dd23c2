-- Texts of queries over the words of tokenizers, each computed.
use Rattle.std.specs.Prelude.{◌≡◌, ℕ, true, false, List, [], ◌∷◌, ◌++◌, Option, Some, codes, encode_utf8_all, filter, refl}
use Rattle.ii_base.specs.declared.schema.index_record_option.IndexRecordOption.TheVariants.{WithFreqsAndPositions}
use Rattle.ii_base.specs.declared.schema.value_type.ValueType.TheVariants.{Str}
use Rattle.ii_tokenizers.specs.Tokenizers.{plain_tokenizer, prefix_tokenizer, tokenized}
use Rattle.ii_tokenizers.specs.declared.analyzer.Analyzer.TheVariants.{Ascii, Default, English, Raw}
use Rattle.ii_tokenizers.specs.declared.field_tokenizer.FieldTokenizer.{FieldTokenizer}
use Rattle.ii_tokenizers.proofs.OnLiterals.{words_on_literals}
use Rattle.ii_definitions.specs.Tokens.{Call, text, tokens_of}
use Rattle.ii_query_grammar.specs.Lexemes.{set_values, tokens}
use Rattle.ii_query_parser.specs.QueryTexts.{AnalyzedFields, text_matches_by, text_refusal_by}
use Rattle.ii_query_parser.specs.declared.query_parser_error.QueryParserError.{QueryParserError}
use Rattle.ii_query_parser.specs.declared.query_parser_error.QueryParserError.TheVariants as errors

-- a field of texts with a tokenizer
abbrev fields_by : FieldTokenizer → AnalyzedFields
fields_by tokenizer = record {
  texts = record {
    analyze = λ field. tokenized tokenizer;
    entries = record { name = codes "tag"; value_type = Str; option = WithFreqsAndPositions; is_indexed = true; has_fieldnorms = true; expands_dots = false } ∷ [];
  };
  prefixes = λ field. tokenized (prefix_tokenizer tokenizer);
  defaults = 0 ∷ [];
}

abbrev said : ℕ → List ℕ → Call
said doc words = record { doc = doc; field = 0; content = text words }

-- the documents of three texts that a query matches
abbrev docs_of : FieldTokenizer → List ℕ → List ℕ → List ℕ → List ℕ → List ℕ
docs_of tokenizer first second third query = filter (λ (doc : ℕ). text_matches_by (fields_by tokenizer) query (tokens_of (tokenized tokenizer) (said 0 first ∷ said 1 second ∷ said 2 third ∷ [])) doc) (0 ∷ 1 ∷ 2 ∷ [])

abbrev refusal_of : FieldTokenizer → List ℕ → Option QueryParserError
refusal_of tokenizer query = text_refusal_by (fields_by tokenizer) query

-- `The sea` and `sea’s`: words in any case, and cut at the mark
abbrev sea_of_someone : List ℕ
sea_of_someone = encode_utf8_all (codes "sea" ++ 0x2019 ∷ codes "s")

pub any_case : docs_of (plain_tokenizer Default) (codes "The sea") sea_of_someone (codes "search") (codes "SEA") ≡ 0 ∷ 1 ∷ []
unfolding tokens words_on_literals
any_case = refl

pub same_case : docs_of (plain_tokenizer Ascii) (codes "The sea") sea_of_someone (codes "search") (codes "SEA") ≡ []
unfolding tokens words_on_literals
same_case = refl

-- a text that is cut is a phrase
pub cut_phrase : docs_of (plain_tokenizer Default) (codes "the host.org") (codes "org host") (codes "host the org") (codes "host.org") ≡ 0 ∷ []
unfolding tokens words_on_literals
cut_phrase = refl

-- the folded start of words
pub folded_prefix : docs_of (plain_tokenizer Default) (codes "The sea") (codes "SEAL") (codes "set") (codes "Sea*") ≡ 0 ∷ 1 ∷ []
unfolding tokens words_on_literals
folded_prefix = refl

-- complete values
pub set_of_values : docs_of (plain_tokenizer Raw) (codes "b c") (codes "x") (codes "d") (codes "tag:IN [a \"b c\" d]") ≡ 0 ∷ 2 ∷ []
unfolding tokens set_values words_on_literals
set_of_values = refl

-- English words without `the`
abbrev without_the : FieldTokenizer
without_the = record { analyzer = English; stop_words = codes "the" ∷ [] }

pub stop_word_and_sea : docs_of without_the (codes "The Sea") (codes "old seas") (codes "the man") (codes "the AND sea") ≡ 0 ∷ 1 ∷ []
unfolding tokens words_on_literals
stop_word_and_sea = refl

pub sea_alone : docs_of without_the (codes "The Sea") (codes "old seas") (codes "the man") (codes "sea") ≡ 0 ∷ 1 ∷ []
unfolding tokens words_on_literals
sea_alone = refl

pub stop_word_alone : refusal_of without_the (codes "the") ≡ Some errors.NoWords
unfolding tokens words_on_literals
stop_word_alone = refl

-- the start of a word isn't stemmed, and is no stop word: `running` is the start of no stem
pub prefix_of_a_stop_word : docs_of without_the (codes "theory") (codes "the man") (codes "running") (codes "the* OR running*") ≡ 0 ∷ []
unfolding tokens words_on_literals
prefix_of_a_stop_word = refl

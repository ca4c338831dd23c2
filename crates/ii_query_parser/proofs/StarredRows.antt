-- Phrases whose last word is a prefix in texts of queries, each computed.
use Rattle.std.specs.Prelude.{◌≡◌, ℕ, true, false, List, [], ◌∷◌, Option, Some, codes, filter, map, nat_eq, not, refl, take}
use Rattle.std.specs.List.{list_any}
use Rattle.ii_base.specs.AsciiWords.{ascii_words}
use Rattle.ii_base.specs.Schema.{SchemaEntry}
use Rattle.ii_base.specs.Words.{Word}
use Rattle.ii_base.specs.declared.schema.index_record_option.IndexRecordOption.{IndexRecordOption}
use Rattle.ii_base.specs.declared.schema.index_record_option.IndexRecordOption.TheVariants.{Basic, WithFreqsAndPositions}
use Rattle.ii_base.specs.declared.schema.value_type.ValueType.{ValueType}
use Rattle.ii_base.specs.declared.schema.value_type.ValueType.TheVariants.{Str, U64}
use Rattle.ii_definitions.specs.Tokens.{Call, IndexToken, text, tokens_of}
use Rattle.ii_query_grammar.specs.Lexemes.{tokens}
use Rattle.ii_query_parser.specs.QueryTexts.{AnalyzedFields, by_one, text_matches_by, text_refusal_by}
use Rattle.ii_query_parser.specs.StarredTexts.{starred_words}
use Rattle.ii_query_parser.specs.declared.query_parser_error.QueryParserError.{QueryParserError}
use Rattle.ii_query_parser.specs.declared.query_parser_error.QueryParserError.TheVariants as errors

abbrev field : List ℕ → ValueType → IndexRecordOption → SchemaEntry
field name type option = record { name = name; value_type = type; option = option; is_indexed = true; has_fieldnorms = false; expands_dots = false }

-- a field with positions, the default, one without, and one of numbers
abbrev entries : List SchemaEntry
entries = field (codes "body") Str WithFreqsAndPositions ∷ field (codes "bare") Str Basic ∷ field (codes "num") U64 Basic ∷ []

abbrev fields : AnalyzedFields
fields = by_one (record { texts = record { analyze = ascii_words; entries = entries }; defaults = 0 ∷ [] })

abbrev said : ℕ → ℕ → List ℕ → Call
said doc field words = record { doc = doc; field = field; content = text words }

-- directly followed; one word between; exchanged; as they are; in two texts of a document; in another field
abbrev values : List IndexToken
values = tokens_of ascii_words (said 0 0 (codes "old search") ∷ said 1 0 (codes "old wide sea") ∷ said 2 0 (codes "sea old") ∷ said 3 0 (codes "old sea") ∷ said 4 0 (codes "old") ∷ said 4 0 (codes "sea") ∷ said 5 1 (codes "old sea") ∷ [])

abbrev docs_by : AnalyzedFields → List IndexToken → List ℕ → List ℕ
docs_by q ts query = filter (λ (doc : ℕ). text_matches_by q query ts doc) (0 ∷ 1 ∷ 2 ∷ 3 ∷ 4 ∷ 5 ∷ [])

abbrev docs_of : List ℕ → List ℕ
docs_of query = docs_by fields values query

abbrev refusal_of : List ℕ → Option QueryParserError
refusal_of = text_refusal_by fields

abbrev any_of_several : docs_of (codes "\"old se\"*") ≡ 0 ∷ 3 ∷ []
unfolding tokens
any_of_several = refl

abbrev only_one : docs_of (codes "\"old sear\"*") ≡ 0 ∷ []
unfolding tokens
only_one = refl

abbrev without_a_star : docs_of (codes "\"old se\"") ≡ []
unfolding tokens
without_a_star = refl

abbrev three_words : docs_of (codes "body:\"old wide s\"*") ≡ 1 ∷ []
unfolding tokens
three_words = refl

abbrev excluded : docs_of (codes "old AND NOT \"old se\"*") ≡ 1 ∷ 2 ∷ 4 ∷ []
unfolding tokens
excluded = refl

-- a phrase of one word is a prefix
abbrev one_word : docs_of (codes "\"sea\"* AND NOT \"wid\"*") ≡ 0 ∷ 2 ∷ 3 ∷ 4 ∷ []
unfolding tokens
one_word = refl

-- one of no word is left out
abbrev no_word : docs_of (codes "wide AND \"-\"*") ≡ 1 ∷ []
unfolding tokens
no_word = refl

abbrev no_word_alone : refusal_of (codes "\"-\"*") ≡ Some errors.NoWords
unfolding tokens
no_word_alone = refl

-- a field that keeps no positions
abbrev without_positions : refusal_of (codes "bare:\"old se\"*") ≡ Some (errors.FieldDoesNotHavePositionsIndexed 1)
unfolding tokens
without_positions = refl

abbrev one_word_without_positions : docs_of (codes "bare:\"se\"*") ≡ 5 ∷ []
unfolding tokens
one_word_without_positions = refl

-- a field of numbers
abbrev number : refusal_of (codes "num:\"7\"*") ≡ Some (errors.UnsupportedPrefix 2)
unfolding tokens
number = refl

abbrev no_number : refusal_of (codes "num:\"old se\"*") ≡ Some (errors.ExpectedInt 2)
unfolding tokens
no_number = refl

-- words whose stems are their first three letters, without those that begin with `t`
abbrev stemmed : List ℕ → List Word
stemmed words = map (λ (w : Word). record w { text = take 3 w.text }) (filter (λ (w : Word). not (list_any (nat_eq 116) (take 1 w.text))) (ascii_words words))

abbrev stemmed_fields : AnalyzedFields
stemmed_fields = record { texts = record { analyze = λ field. stemmed; entries = entries }; prefixes = λ field. ascii_words; defaults = 0 ∷ [] }

-- the tokens `run`, `wat`; `run`, one left out, `wat`; `run`, one left out
abbrev stems : List IndexToken
stems = tokens_of stemmed (said 0 0 (codes "running water") ∷ said 1 0 (codes "runs the water") ∷ said 2 0 (codes "run to") ∷ [])

abbrev stemmed_docs_of : List ℕ → List ℕ
stemmed_docs_of query = docs_by stemmed_fields stems query

-- the words before the last one are stemmed
abbrev stemmed_before : stemmed_docs_of (codes "\"runner wa\"*") ≡ 0 ∷ []
unfolding tokens
stemmed_before = refl

abbrev left_out_before : stemmed_docs_of (codes "\"running the w\"*") ≡ 1 ∷ []
unfolding tokens
left_out_before = refl

-- the last one isn't: no token starts with `water`
abbrev long_last : stemmed_docs_of (codes "\"running water\"*") ≡ []
unfolding tokens
long_last = refl

-- nor is it left out: no token starts with `t`
abbrev last_left_out : stemmed_docs_of (codes "\"running t\"*") ≡ []
unfolding tokens
last_left_out = refl

-- by one analyzer the words are those of the text
pub by_one_analyzer : starred_words (ascii_words (codes "the old sea")) (ascii_words (codes "the old sea")) ≡ ascii_words (codes "the old sea")
by_one_analyzer = refl

pub of_no_words : starred_words (ascii_words (codes "old")) [] ≡ []
of_no_words = refl

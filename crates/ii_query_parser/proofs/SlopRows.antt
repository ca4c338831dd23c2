-- Phrases with a slop in texts of queries, each computed.
use Rattle.std.specs.Prelude.{◌≡◌, ℕ, Bool, true, false, List, [], ◌∷◌, Option, None, Some, codes, filter, map, refl}
use Rattle.ii_base.specs.AsciiWords.{ascii_words}
use Rattle.ii_base.specs.Schema.{SchemaEntry}
use Rattle.ii_base.specs.Terms.{TermState}
use Rattle.ii_base.specs.declared.schema.index_record_option.IndexRecordOption.{IndexRecordOption}
use Rattle.ii_base.specs.declared.schema.index_record_option.IndexRecordOption.TheVariants.{Basic, WithFreqsAndPositions}
use Rattle.ii_base.specs.declared.schema.value_type.ValueType.TheVariants.{Str}
use Rattle.ii_definitions.specs.Tokens.{Call, IndexToken, text, tokens_of}
use Rattle.ii_query_grammar.specs.Lexemes.{tokens}
use Rattle.ii_query_parser.specs.QueryTexts.{AnalyzedFields, by_one, repeats, text_matches_by, text_refusal_by}
use Rattle.ii_query_parser.specs.declared.query_parser_error.QueryParserError.{QueryParserError}
use Rattle.ii_query_parser.specs.declared.query_parser_error.QueryParserError.TheVariants as errors

abbrev field : List ℕ → IndexRecordOption → SchemaEntry
field name option = record { name = name; value_type = Str; option = option; is_indexed = true; has_fieldnorms = false; expands_dots = false }

-- a field with positions, the default, and one without
abbrev fields : AnalyzedFields
fields = by_one (record { texts = record { analyze = ascii_words; entries = field (codes "body") WithFreqsAndPositions ∷ field (codes "bare") Basic ∷ [] }; defaults = 0 ∷ [] })

abbrev said : ℕ → ℕ → List ℕ → Call
said doc field words = record { doc = doc; field = field; content = text words }

-- one word between; exchanged; as they are; in two texts of a document; in another field
abbrev values : List IndexToken
values = tokens_of ascii_words (said 0 0 (codes "old wide sea") ∷ said 1 0 (codes "sea old") ∷ said 2 0 (codes "old sea") ∷ said 3 0 (codes "old") ∷ said 3 0 (codes "sea") ∷ said 4 1 (codes "old sea") ∷ [])

abbrev docs_of : List ℕ → List ℕ
docs_of query = filter (λ (doc : ℕ). text_matches_by fields query values doc) (0 ∷ 1 ∷ 2 ∷ 3 ∷ 4 ∷ [])

abbrev refusal_of : List ℕ → Option QueryParserError
refusal_of = text_refusal_by fields

abbrev without_slop : docs_of (codes "\"old sea\"") ≡ 2 ∷ []
unfolding tokens
without_slop = refl

abbrev slop_of_zero : docs_of (codes "\"old sea\"~0") ≡ 2 ∷ []
unfolding tokens
slop_of_zero = refl

abbrev slop_of_one : docs_of (codes "\"old sea\"~1") ≡ 0 ∷ 2 ∷ 3 ∷ []
unfolding tokens
slop_of_one = refl

-- two words are exchanged by two steps
abbrev slop_of_two : docs_of (codes "body:\"old sea\"~2") ≡ 0 ∷ 1 ∷ 2 ∷ 3 ∷ []
unfolding tokens
slop_of_two = refl

abbrev excluded : docs_of (codes "old AND NOT \"sea old\"~1") ≡ 0 ∷ 2 ∷ 3 ∷ []
unfolding tokens
excluded = refl

-- a phrase of one word is this word
abbrev one_word : docs_of (codes "\"wide\"~7") ≡ 0 ∷ []
unfolding tokens
one_word = refl

-- a word twice
abbrev twice : refusal_of (codes "\"old sea old\"~1") ≡ Some (errors.UnsupportedSlop 0)
unfolding tokens
twice = refl

abbrev twice_without_slop : refusal_of (codes "\"old sea old\"~0 AND \"sea sea\"") ≡ None
unfolding tokens
twice_without_slop = refl

-- a field that keeps no positions
abbrev without_positions : refusal_of (codes "bare:\"old sea\"~1") ≡ Some (errors.FieldDoesNotHavePositionsIndexed 1)
unfolding tokens
without_positions = refl

-- whether a term occurs twice: in any two places, with its field and its key
abbrev word : ℕ → List ℕ → TermState
word field w = record { field = field; value = w }

abbrev phrase_repeats : TermState → List TermState → Bool
phrase_repeats first others = repeats (record { first = first; others = map (λ (t : TermState). record { distance = 1; term = t }) others })

pub pairs_repeat : map (phrase_repeats (word 0 (codes "a"))) ((word 0 (codes "b") ∷ word 0 (codes "a") ∷ []) ∷ (word 0 (codes "b") ∷ word 0 (codes "b") ∷ []) ∷ (word 0 (codes "b") ∷ word 1 (codes "a") ∷ word 0 (codes "ab") ∷ []) ∷ [] ∷ [])
    ≡ true ∷ true ∷ false ∷ false ∷ []
pairs_repeat = refl

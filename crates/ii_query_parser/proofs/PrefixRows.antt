-- Prefixes and bounds in a field whose words are stemmed, each computed.
use Rattle.std.specs.Prelude.{◌≡◌, ℕ, true, false, List, [], ◌∷◌, codes, filter, map, refl, take}
use Rattle.ii_base.specs.AsciiWords.{ascii_words}
use Rattle.ii_base.specs.Words.{Word}
use Rattle.ii_base.specs.declared.schema.index_record_option.IndexRecordOption.TheVariants.{Basic}
use Rattle.ii_base.specs.declared.schema.value_type.ValueType.TheVariants.{Str}
use Rattle.ii_definitions.specs.Tokens.{Call, IndexToken, text, tokens_of}
use Rattle.ii_query_grammar.specs.Lexemes.{set_values, tokens}
use Rattle.ii_query_parser.specs.QueryTexts.{AnalyzedFields, text_matches_by}

-- words whose stems are their first three letters
abbrev stemmed : List ℕ → List Word
stemmed words = map (λ (w : Word). record w { text = take 3 w.text }) (ascii_words words)

abbrev fields : AnalyzedFields
fields = record {
  texts = record { analyze = λ field. stemmed; entries = record { name = codes "body"; value_type = Str; option = Basic; is_indexed = true; has_fieldnorms = false; expands_dots = false } ∷ [] };
  prefixes = λ field. ascii_words;
  defaults = 0 ∷ [];
}

abbrev said : ℕ → List ℕ → Call
said doc words = record { doc = doc; field = 0; content = text words }

-- the tokens `run`, `run`, `rus`
abbrev values : List IndexToken
values = tokens_of stemmed (said 0 (codes "running") ∷ said 1 (codes "runs") ∷ said 2 (codes "rust") ∷ [])

abbrev docs_of : List ℕ → List ℕ
docs_of query = filter (λ (doc : ℕ). text_matches_by fields query values doc) (0 ∷ 1 ∷ 2 ∷ [])

-- a word, a word in quotes and a value of a set are stemmed
abbrev word : docs_of (codes "runner") ≡ 0 ∷ 1 ∷ []
unfolding tokens
word = refl

abbrev quoted_word : docs_of (codes "body:\"runner\"") ≡ 0 ∷ 1 ∷ []
unfolding tokens
quoted_word = refl

abbrev value_of_a_set : docs_of (codes "body:IN [runner]") ≡ 0 ∷ 1 ∷ []
unfolding tokens set_values
value_of_a_set = refl

-- a prefix isn't: no token starts with `running`
abbrev prefix : docs_of (codes "run*") ≡ 0 ∷ 1 ∷ []
unfolding tokens
prefix = refl

abbrev long_prefix : docs_of (codes "running*") ≡ []
unfolding tokens
long_prefix = refl

abbrev named_prefix : docs_of (codes "body:ru*") ≡ 0 ∷ 1 ∷ 2 ∷ []
unfolding tokens
named_prefix = refl

-- nor is a bound: `run` is less than `running`
abbrev lower_bound : docs_of (codes "body:[running TO *]") ≡ 2 ∷ []
unfolding tokens
lower_bound = refl

abbrev upper_bound : docs_of (codes "body:<=running") ≡ 0 ∷ 1 ∷ []
unfolding tokens
upper_bound = refl

abbrev short_bound : docs_of (codes "body:>run") ≡ 2 ∷ []
unfolding tokens
short_bound = refl

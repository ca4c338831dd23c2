-- The names of analyzers, and the tokenizers of fields.
use Rattle.std.specs.Prelude.{ℕ, Bool, true, false, List, [], Option, None, Some, bytes_eq, codes, get_or, if◌then◌else◌}
use Rattle.ii_base.specs.Words.{Word}
use Rattle.ii_tokenizers.specs.Analyzers.{analyzed_without, prefix_analyzer}
use Rattle.ii_tokenizers.specs.declared.analyzer.Analyzer.{Analyzer}
use Rattle.ii_tokenizers.specs.declared.analyzer.Analyzer.TheVariants.{Ascii, Default, English, Raw, Whitespace}
use Rattle.ii_tokenizers.specs.declared.field_tokenizer.FieldTokenizer.{FieldTokenizer}

-- the name of an analyzer in a schema
abbrev pub analyzer_name : Analyzer → List ℕ
analyzer_name Ascii = codes "ascii"
analyzer_name Raw = codes "raw"
analyzer_name Whitespace = codes "whitespace"
analyzer_name Default = codes "default"
analyzer_name English = codes "en"

-- the analyzer with this name
unfoldable pub analyzer_named : List ℕ → Option Analyzer
analyzer_named name =
    if bytes_eq name (codes "default") then Some Default
    else if bytes_eq name (codes "raw") then Some Raw
    else if bytes_eq name (codes "whitespace") then Some Whitespace
    else if bytes_eq name (codes "ascii") then Some Ascii
    else if bytes_eq name (codes "en") then Some English
    else None

-- whether the words of an analyzer depend on the version of Unicode
abbrev pub uses_unicode : Analyzer → Bool
uses_unicode Ascii = false
uses_unicode Raw = false
uses_unicode Whitespace = true
uses_unicode Default = true
uses_unicode English = true

-- the version of Unicode that analyzers follow
abbrev pub unicode_version : List ℕ
unicode_version = codes "18.0.0"

-- the tokens of a text by a tokenizer
abbrev pub tokenized : FieldTokenizer → List ℕ → List Word
tokenized t text = analyzed_without t.stop_words t.analyzer text

-- a tokenizer without stop words
abbrev pub plain_tokenizer : Analyzer → FieldTokenizer
plain_tokenizer analyzer = record { analyzer = analyzer; stop_words = [] }

-- the tokenizer of the beginnings and bounds of words: it doesn't stem, and has no stop words
abbrev pub prefix_tokenizer : FieldTokenizer → FieldTokenizer
prefix_tokenizer t = plain_tokenizer (prefix_analyzer t.analyzer)

-- the tokens of a text in a field, given the tokenizers of fields in their order; other fields have the ASCII one
abbrev pub analyzed_in : List FieldTokenizer → ℕ → List ℕ → List Word
analyzed_in tokenizers field text = tokenized (get_or tokenizers field (plain_tokenizer Ascii)) text

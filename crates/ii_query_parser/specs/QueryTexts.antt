-- What the text of a query means, by the fields of a schema.
use Rattle.std.specs.Prelude.{◌≡◌, ◌⊎◌, is_some, ℕ, Bool, true, false, ◌&&◌, ◌||◌, ◌==◌, ◌+◌, ◌-◌, not, List, [], ◌∷◌, ◌++◌, Option, None, Some, Result, Ok, Err, bytes_eq, drop, if◌then◌else◌, length, map, nat_eq, nat_le, nat_lt, option_map, position, slice_get, take}
use Rattle.std.specs.Int.{bytes_high_first}
use Rattle.std.specs.List.{find, list_all, list_any, position_from}
use Rattle.std.specs.Option.{option_or, option_to_list}
use Rattle.std.specs.Result.{result_ok}
use Rattle.hex.specs.Hex.{decode_of}
use Rattle.ii_io.specs.declared.faults.Fault.TheVariants.{OutOfMemory}
use Rattle.ii_base.specs.Options.{has_positions}
use Rattle.ii_base.specs.Paths.{has_zero, path_bytes, segments_of}
use Rattle.ii_base.specs.Schema.{SchemaEntry}
use Rattle.ii_base.specs.Terms.{TermState}
use Rattle.ii_base.specs.ValueTypes.{code_of}
use Rattle.ii_base.specs.Values.{flipped, number_of_bool, text_key, u64_bytes}
use Rattle.ii_base.specs.Words.{Word}
use Rattle.ii_base.specs.declared.doc_id.TheConstants.{TERMINATED}
use Rattle.ii_base.specs.declared.schema.value_type.ValueType.{ValueType}
use Rattle.ii_base.specs.declared.schema.value_type.ValueType.TheVariants as types
use Rattle.ii_dates.specs.Dates.{date_in}
use Rattle.ii_json.specs.FastValues.{bool_in, fast_value_in, i64_in, u64_in}
use Rattle.ii_term_text.specs.Addresses.{address_in}
use Rattle.ii_definitions.specs.JsonKeys.{is_json}
use Rattle.ii_definitions.specs.Tokens.{IndexToken}
use Rattle.ii_query_grammar.specs.Parsed.{parsed}
use Rattle.ii_query_grammar.specs.Trees.{Ast, Asts, Bound, Literal, Range, ValueSet, all_of, and_asts, any_of, everything, exclusive, in_set, inclusive, leaf, no_asts, ranged, unbounded, without}
use Rattle.ii_query_grammar.specs.declared.parse_error.ParseError.{ParseError}
use Rattle.ii_query_grammar.specs.declared.user_input_ast.Delimiter.{Delimiter}
use Rattle.ii_query_grammar.specs.declared.user_input_ast.Delimiter.TheVariants as delimiters
use Rattle.ii_query_grammar.specs.declared.query_grammar.TheConstants.{MAX_NESTING}
use Rattle.ii_query_parser.specs.Queries.{covers_docs, has_fields, has_phrase, has_phrase_within, is_token_between, is_token_of, keeps_positions, matches}
use Rattle.ii_query_parser.specs.ParserErrors.{as_parser_error}
use Rattle.ii_query_parser.specs.Ranges.{KeyRange, KeyRanges}
use Rattle.ii_query_parser.specs.declared.query.PhraseTerm.{PhraseTerm}
use Rattle.ii_query_parser.specs.declared.query.Query.{Query}
use Rattle.ii_query_parser.specs.declared.query_parser_error.QueryParserError.{QueryParserError}
use Rattle.ii_query_parser.specs.declared.query_parser_error.QueryParserError.TheVariants as errors
use Rattle.ii_query_parser.specs.declared.range_text.Integers.{Integers}
use Rattle.ii_query_parser.specs.declared.range_text.Integers.TheVariants as integers
use Rattle.ii_query_parser.specs.StarredTexts.{has_starred, is_token_under, starred_words}

-- An analyzer and the fields of a schema, by which the words of a field are looked up.
pub record TextFields : Type 0 where
  pub analyze : List ℕ → List Word
  pub entries : List SchemaEntry

-- An analyzer and the fields of a schema, and the default fields: those of a literal that names none.
pub record QueryFields : Type 0 where
  pub texts : TextFields
  pub defaults : List ℕ

-- The analyzer of each field, and the fields of a schema.
pub record FieldTexts : Type 0 where
  pub analyze : ℕ → List ℕ → List Word
  pub entries : List SchemaEntry

-- The analyzer of each field and the fields of a schema, the analyzer of prefixes and of bounds in each field, and the default fields: those of a literal that names none.
pub record AnalyzedFields : Type 0 where
  pub texts : FieldTexts
  pub prefixes : ℕ → List ℕ → List Word
  pub defaults : List ℕ

-- the analyzer of a field, and the fields of the schema
abbrev pub in_field : FieldTexts → ℕ → TextFields
in_field q field = record { analyze = q.analyze field; entries = q.entries }

-- all fields with the same analyzer, also of prefixes
abbrev pub by_one : QueryFields → AnalyzedFields
by_one q = record { texts = record { analyze = λ field. q.texts.analyze; entries = q.texts.entries }; prefixes = λ field. q.texts.analyze; defaults = q.defaults }

-- the analyzer of prefixes and of bounds in each field, and the fields of the schema
abbrev pub prefix_texts : AnalyzedFields → FieldTexts
prefix_texts q = record { analyze = q.prefixes; entries = q.texts.entries }

-- A term, and those that follow it in a phrase; a term alone has none.
pub record PhraseState : Type 0 where
  pub first : TermState
  pub others : List PhraseTerm

-- a term alone
abbrev pub one_term : TermState → PhraseState
one_term t = record { first = t; others = [] }

-- whether no term follows the first
abbrev pub is_alone : PhraseState → Bool
is_alone p = nat_eq (length p.others) 0

-- the terms and phrases of a literal, of which a document has to have one, or the error of the literal
abbrev pub Terms : Type 0
Terms = Result (List PhraseState) QueryParserError

-- the term of a word after a prefix
abbrev pub word_term : TermState → List ℕ → TermState
word_term prefix word = record { field = prefix.field; value = prefix.value ++ word }

-- whether words are at a position or less than 2^32 positions after it
abbrev pub stand_after : ℕ → List Word → Bool
stand_after first ws = list_all (λ (w : Word). nat_le first w.position && nat_lt (w.position - first) 4294967296) ws

-- the terms of words after a prefix, each with its distance from a position
abbrev pub terms_after : TermState → ℕ → List Word → List PhraseTerm
terms_after prefix first ws = map (λ (w : Word). record { distance = w.position - first; term = word_term prefix w.text }) ws

-- the phrase of words after a prefix: the first one, and the others, none of which comes before it
abbrev pub words_phrase : TermState → List Word → Option PhraseState
words_phrase prefix [] = None
words_phrase prefix (w ∷ ws) = if stand_after w.position ws then Some (record { first = word_term prefix w.text; others = terms_after prefix w.position ws }) else None

-- the term of a value in a field, if there is one
abbrev pub value_term : ℕ → QueryParserError → Option (List ℕ) → Terms
value_term field error None = Err error
value_term field error (Some key) = Ok (one_term (record { field = field; value = key }) ∷ [])

-- the terms of words that are no phrase: none, if there is no word
abbrev pub no_phrase : ℕ → List Word → Terms
no_phrase field [] = Ok []
no_phrase field (w ∷ ws) = Err (errors.UnsupportedPhrase field)

-- the terms that a text is looked up by in a field: that of a value, if there is one, and the phrase of its words, if they are one; several words need positions
abbrev pub text_terms : ℕ → Bool → Option TermState → List Word → Option PhraseState → Terms
text_terms field keeps None ws None = no_phrase field ws
text_terms field keeps (Some value) ws None = Ok (one_term value ∷ [])
text_terms field keeps value ws (Some words) =
    if keeps || is_alone words then Ok (map one_term (option_to_list value) ++ words ∷ []) else Err (errors.FieldDoesNotHavePositionsIndexed field)

-- the bytes of a path and their end
abbrev pub path_key : Bool → List ℕ → List ℕ
path_key expand_dots path = path_bytes expand_dots (segments_of path) ++ 0 ∷ []

-- the value that a text is taken for at a path, if it is taken for one
abbrev pub path_value : ℕ → Bool → List ℕ → List ℕ → Option TermState
path_value field expand_dots path phrase = option_map (λ value. record { field = field; value = path_key expand_dots path ++ value }) (fast_value_in phrase)

-- the terms of a text in a field, by what the field keeps and by the type of its values
abbrev pub typed_terms : TextFields → ℕ → Bool → Bool → List ℕ → List ℕ → ValueType → Terms
typed_terms q field keeps expand_dots path phrase types.Str = text_terms field keeps None (q.analyze phrase) (words_phrase (record { field = field; value = [] }) (q.analyze phrase))
typed_terms q field keeps expand_dots path phrase types.U64 = value_term field (errors.ExpectedInt field) (option_map u64_bytes (u64_in phrase))
typed_terms q field keeps expand_dots path phrase types.I64 = value_term field (errors.ExpectedInt field) (option_map (λ n. u64_bytes (flipped n)) (i64_in phrase))
typed_terms q field keeps expand_dots path phrase types.Bool = value_term field (errors.ExpectedBool field) (option_map (λ b. u64_bytes (number_of_bool b)) (bool_in phrase))
typed_terms q field keeps expand_dots path phrase types.Date = value_term field (errors.ExpectedDate field) (option_map (λ z. u64_bytes (flipped z)) (date_in phrase))
typed_terms q field keeps expand_dots path phrase types.Bytes = value_term field (errors.ExpectedBytes field) (result_ok (decode_of phrase))
typed_terms q field keeps expand_dots path phrase types.IpAddr = value_term field (errors.ExpectedIpAddr field) (option_map (λ n. bytes_high_first 16 n) (address_in phrase))
typed_terms q field keeps expand_dots path phrase types.Json =
    if has_zero path then Err (errors.UnsupportedPath field)
    else text_terms field keeps (path_value field expand_dots path phrase) (q.analyze phrase) (words_phrase (record { field = field; value = path_key expand_dots path ++ text_key [] }) (q.analyze phrase))

-- the terms of a text in an entry of the schema, if it is indexed
abbrev pub entry_terms : TextFields → ℕ → List ℕ → List ℕ → Option SchemaEntry → Terms
entry_terms q field path phrase None = Err errors.FieldDoesNotExist
entry_terms q field path phrase (Some e) = if e.is_indexed then typed_terms q field (has_positions e.option) e.expands_dots path phrase e.value_type else Err (errors.FieldNotIndexed field)

-- the terms of a text in a field of the schema, at a path where it has JSON values
abbrev pub terms_in_field : TextFields → ℕ → List ℕ → List ℕ → Terms
terms_in_field q field path phrase = entry_terms q field path phrase (slice_get q.entries field)

-- the first field with a name
abbrev pub field_named : List SchemaEntry → List ℕ → Option ℕ
field_named entries name = position_from (λ (e : SchemaEntry). bytes_eq e.name name) 0 entries

-- whether a field has JSON values
abbrev pub has_json_values : Option SchemaEntry → Bool
has_json_values None = false
has_json_values (Some e) = is_json e.value_type

-- the terms at a path in a field of JSON values
abbrev pub path_terms : FieldTexts → List ℕ → List ℕ → Option ℕ → Terms
path_terms q path phrase None = Err errors.FieldDoesNotExist
path_terms q path phrase (Some field) = if has_json_values (slice_get q.entries field) then terms_in_field (in_field q field) field path phrase else Err errors.FieldDoesNotExist

-- the terms of a text after a name that is cut at its first dot, if it has one
abbrev pub dotted_terms : FieldTexts → List ℕ → List ℕ → Option ℕ → Terms
dotted_terms q name phrase None = Err errors.FieldDoesNotExist
dotted_terms q name phrase (Some i) = path_terms q (drop (i + 1) name) phrase (field_named q.entries (take i name))

-- the terms of a text after a name: that of a field, or that of one of JSON values and a path after a dot
abbrev pub named_terms : FieldTexts → List ℕ → List ℕ → Option ℕ → Terms
named_terms q name phrase (Some field) = terms_in_field (in_field q field) field [] phrase
named_terms q name phrase None = dotted_terms q name phrase (position (λ b. b == 46) name)

-- two lists of terms together, or the first error
abbrev pub joined_terms : Terms → Terms → Terms
joined_terms (Err e) other = Err e
joined_terms (Ok ts) (Err e) = Err e
joined_terms (Ok ts) (Ok us) = Ok (ts ++ us)

-- whether an error is that of a phrase in a field without positions
abbrev pub needs_positions : QueryParserError → Bool
needs_positions (errors.FieldDoesNotHavePositionsIndexed field) = true
needs_positions (errors.SyntaxError expected at) = false
needs_positions (errors.Unsupported feature at) = false
needs_positions errors.FieldDoesNotExist = false
needs_positions (errors.FieldNotIndexed field) = false
needs_positions errors.NoDefaultFieldDeclared = false
needs_positions errors.NoWords = false
needs_positions (errors.ExpectedInt field) = false
needs_positions (errors.ExpectedBool field) = false
needs_positions (errors.ExpectedDate field) = false
needs_positions (errors.ExpectedBytes field) = false
needs_positions (errors.ExpectedIpAddr field) = false
needs_positions (errors.UnsupportedPhrase field) = false
needs_positions (errors.UnsupportedPrefix field) = false
needs_positions (errors.UnsupportedSlop field) = false
needs_positions (errors.UnsupportedBound field) = false
needs_positions (errors.UnsupportedPath field) = false
needs_positions (errors.Fault fault) = false

-- whether a default field is left out, since a phrase needs positions and the field keeps none
abbrev pub is_left_out : Terms → Bool
is_left_out (Ok terms) = false
is_left_out (Err e) = needs_positions e

-- the terms in a default field: none where it is left out
abbrev pub left_out : Terms → Terms
left_out (Ok terms) = Ok terms
left_out (Err e) = if needs_positions e then Ok [] else Err e

-- the terms of a text in each default field, except those that are left out
abbrev pub default_terms : FieldTexts → List ℕ → List ℕ → Terms
default_terms q phrase [] = Ok []
default_terms q phrase (field ∷ fields) = joined_terms (left_out (terms_in_field (in_field q field) field [] phrase)) (default_terms q phrase fields)

-- a field, if it is left out
abbrev pub if_left_out : ℕ → Terms → Option ℕ
if_left_out field terms = if is_left_out terms then Some field else None

-- the first default field that is left out
abbrev pub first_left_out : FieldTexts → List ℕ → List ℕ → Option ℕ
first_left_out q phrase [] = None
first_left_out q phrase (field ∷ fields) = option_or (if_left_out field (terms_in_field (in_field q field) field [] phrase)) (first_left_out q phrase fields)

-- no terms, unless a field is left out
abbrev pub none_unless : Option ℕ → Terms
none_unless None = Ok []
none_unless (Some field) = Err (errors.FieldDoesNotHavePositionsIndexed field)

-- the terms in the default fields, given the first that is left out, of which the error is if there are no terms
abbrev pub some_left : Option ℕ → Terms → Terms
some_left left (Err e) = Err e
some_left left (Ok []) = none_unless left
some_left left (Ok (t ∷ ts)) = Ok (t ∷ ts)

-- the terms of a text in the default fields, of which there has to be one
abbrev pub some_default : FieldTexts → List ℕ → List ℕ → Terms
some_default q phrase [] = Err errors.NoDefaultFieldDeclared
some_default q phrase (field ∷ fields) = some_left (first_left_out q phrase (field ∷ fields)) (default_terms q phrase (field ∷ fields))

-- the terms of a word or a phrase
abbrev pub literal_terms : FieldTexts → List ℕ → Option (List ℕ) → List ℕ → Terms
literal_terms q defaults None phrase = some_default q phrase defaults
literal_terms q defaults (Some name) phrase = named_terms q name phrase (field_named q.entries name)

-- whether values of a type are texts, or may be
abbrev pub are_texts : ValueType → Bool
are_texts types.Str = true
are_texts types.Json = true
are_texts types.U64 = false
are_texts types.I64 = false
are_texts types.Bool = false
are_texts types.Date = false
are_texts types.Bytes = false
are_texts types.IpAddr = false

-- whether a field has texts
abbrev pub holds_texts : Option SchemaEntry → Bool
holds_texts None = false
holds_texts (Some e) = are_texts e.value_type

-- whether a term may be a prefix: no other follows it, and its field has texts
abbrev pub may_be_prefix : List SchemaEntry → PhraseState → Bool
may_be_prefix entries p = is_alone p && holds_texts (slice_get entries p.first.field)

-- the first term or phrase that may be no prefix
abbrev pub no_prefix : List SchemaEntry → List PhraseState → Option PhraseState
no_prefix entries terms = find (λ (p : PhraseState). not (may_be_prefix entries p)) terms

-- terms of which there has to be one
abbrev pub some_terms : List PhraseState → Terms
some_terms [] = Err errors.NoWords
some_terms (t ∷ ts) = Ok (t ∷ ts)

-- the terms of a prefix, of which there has to be one, unless this one may be none
abbrev pub prefix_terms : List PhraseState → Option PhraseState → Terms
prefix_terms terms None = some_terms terms
prefix_terms terms (Some p) = Err (errors.UnsupportedPrefix p.first.field)

-- whether two terms are the same
abbrev pub is_same_term : TermState → TermState → Bool
is_same_term s t = (s.field == t.field) && bytes_eq s.value t.value

-- whether a term is one of those of a phrase after its first
abbrev pub is_among : TermState → List PhraseTerm → Bool
is_among t others = list_any (λ (o : PhraseTerm). is_same_term t o.term) others

-- whether one of these is also one of those after it
abbrev pub are_repeated : List PhraseTerm → Bool
are_repeated [] = false
are_repeated (o ∷ os) = is_among o.term os || are_repeated os

-- whether a term occurs twice in a phrase
abbrev pub repeats : PhraseState → Bool
repeats p = is_among p.first p.others || are_repeated p.others

-- terms, unless this phrase has a term twice
abbrev pub unless_repeated : List PhraseState → Option PhraseState → Terms
unless_repeated terms None = Ok terms
unless_repeated terms (Some p) = Err (errors.UnsupportedSlop p.first.field)

-- the terms of a text with a slop: if it is above 0, no phrase may have a term twice
abbrev pub sloppy_terms : ℕ → List PhraseState → Terms
sloppy_terms slop terms = if slop == 0 then Ok terms else unless_repeated terms (find repeats terms)

-- the first phrase of a field without texts
abbrev pub without_texts : List SchemaEntry → List PhraseState → Option PhraseState
without_texts entries terms = find (λ (p : PhraseState). not (holds_texts (slice_get entries p.first.field))) terms

-- the terms of a text whose last word is a prefix, unless this one is of a field without texts
abbrev pub starred_terms : List PhraseState → Option PhraseState → Terms
starred_terms terms None = Ok terms
starred_terms terms (Some p) = Err (errors.UnsupportedPrefix p.first.field)

-- the terms of a text by its delimiter: those of a prefix are terms of which each may be one
abbrev pub delimited_terms : List SchemaEntry → Terms → Delimiter → Terms
delimited_terms entries (Err e) delimiter = Err e
delimited_terms entries (Ok terms) delimiters.None = Ok terms
delimited_terms entries (Ok terms) delimiters.DoubleQuotes = Ok terms
delimited_terms entries (Ok terms) delimiters.Star = prefix_terms terms (no_prefix entries terms)
delimited_terms entries (Ok terms) (delimiters.Slop slop) = sloppy_terms slop terms
delimited_terms entries (Ok terms) delimiters.Prefix = starred_terms terms (without_texts entries terms)

-- the analyzer of texts in each field whose last word is a prefix, and the fields of the schema
abbrev pub starred_texts : AnalyzedFields → FieldTexts
starred_texts q = record { analyze = λ field text. starred_words (q.texts.analyze field text) (q.prefixes field text); entries = q.texts.entries }

-- the analyzers of a literal: a prefix has its own, and so has a text whose last word is one
abbrev pub texts_for : AnalyzedFields → Delimiter → FieldTexts
texts_for q delimiters.None = q.texts
texts_for q delimiters.DoubleQuotes = q.texts
texts_for q delimiters.Star = prefix_texts q
texts_for q (delimiters.Slop slop) = q.texts
texts_for q delimiters.Prefix = starred_texts q

-- the terms of the text of a literal of a tree, by the analyzers that it has
abbrev pub undelimited_terms : AnalyzedFields → Literal → Terms
undelimited_terms q l = literal_terms (texts_for q l.delimiter) q.defaults l.field_name l.phrase

-- the terms of a literal of a tree
abbrev pub terms_of : AnalyzedFields → Literal → Terms
terms_of q l = delimited_terms q.texts.entries (undelimited_terms q l) l.delimiter

-- whether a field has JSON values, if there is one
abbrev pub names_json : List SchemaEntry → Option ℕ → Bool
names_json entries None = false
names_json entries (Some field) = has_json_values (slice_get entries field)

-- whether a name is that of a field of JSON values and a path after its first dot, which is at this place
abbrev pub names_path : List SchemaEntry → List ℕ → Option ℕ → Bool
names_path entries name None = false
names_path entries name (Some i) = names_json entries (field_named entries (take i name))

-- whether a name is that of a field, or of one of JSON values and a path after a dot
abbrev pub names_field : List SchemaEntry → List ℕ → Option ℕ → Bool
names_field entries name (Some field) = true
names_field entries name None = names_path entries name (position (λ b. b == 46) name)

-- the terms of a set without values: none, if there is such a field
abbrev pub no_terms : Bool → Terms
no_terms true = Ok []
no_terms false = Err errors.FieldDoesNotExist

-- the terms of the values of a set, each as those of a text after its name
abbrev pub values_terms : FieldTexts → List ℕ → List (List ℕ) → Terms
values_terms q name [] = no_terms (names_field q.entries name (field_named q.entries name))
values_terms q name (value ∷ values) = joined_terms (named_terms q name value (field_named q.entries name)) (values_terms q name values)

-- the terms of a set of a tree
abbrev pub set_terms : FieldTexts → ValueSet → Terms
set_terms q s = values_terms q s.field_name s.values

-- the key of a term that has to be alone
abbrev pub alone_key : ℕ → PhraseState → Result (List ℕ) QueryParserError
alone_key field p = if is_alone p then Ok p.first.value else Err (errors.UnsupportedBound field)

-- the key of the only term of some
abbrev pub only_key : ℕ → Terms → Result (List ℕ) QueryParserError
only_key field (Err e) = Err e
only_key field (Ok []) = Err (errors.UnsupportedBound field)
only_key field (Ok (p ∷ [])) = alone_key field p
only_key field (Ok (p ∷ o ∷ os)) = Err (errors.UnsupportedBound field)

-- the key of the text of a bound in a field, by the type of its values: that of the text's only term; after a prefix in a field of JSON values
abbrev pub text_bound_key : (List ℕ → List Word) → TermState → List ℕ → ValueType → Result (List ℕ) QueryParserError
text_bound_key analyze prefix text type =
    if is_json type then only_key prefix.field (text_terms prefix.field true None (analyze text) (words_phrase prefix (analyze text)))
    else only_key prefix.field (typed_terms (record { analyze = analyze; entries = [] }) prefix.field true false [] text type)

-- a bound of keys that has the key of its text
abbrev pub inclusive_bound : Result (List ℕ) QueryParserError → Result Bound QueryParserError
inclusive_bound (Err e) = Err e
inclusive_bound (Ok key) = Ok (inclusive key)

-- a bound of keys without the key of its text
abbrev pub exclusive_bound : Result (List ℕ) QueryParserError → Result Bound QueryParserError
exclusive_bound (Err e) = Err e
exclusive_bound (Ok key) = Ok (exclusive key)

-- the bound of keys of a bound
abbrev pub bound_keys : (List ℕ → List Word) → TermState → ValueType → Bound → Result Bound QueryParserError
bound_keys analyze prefix type unbounded = Ok unbounded
bound_keys analyze prefix type (inclusive text) = inclusive_bound (text_bound_key analyze prefix text type)
bound_keys analyze prefix type (exclusive text) = exclusive_bound (text_bound_key analyze prefix text type)

-- what the keys of a field start with: those of a path, if there is one
abbrev pub keys_start : ℕ → Bool → Option (List ℕ) → Result TermState QueryParserError
keys_start field expand_dots None = Ok (record { field = field; value = [] })
keys_start field expand_dots (Some path) = if has_zero path then Err (errors.UnsupportedPath field) else Ok (record { field = field; value = path_key expand_dots path })

-- a range of keys, or the first error of its bounds
abbrev pub keys_between : TermState → Result Bound QueryParserError → Result Bound QueryParserError → Result KeyRanges QueryParserError
keys_between prefix (Err e) upper = Err e
keys_between prefix (Ok lower) (Err e) = Err e
keys_between prefix (Ok lower) (Ok upper) = Ok (record { first = Some (record { prefix = prefix; lower = lower; upper = upper }); other = None })

-- the keys of a range of values of a type, each after a prefix
abbrev pub value_keys : (List ℕ → List Word) → TermState → ValueType → Range → Result KeyRanges QueryParserError
value_keys analyze prefix type r = keys_between prefix (bound_keys analyze prefix type r.lower) (bound_keys analyze prefix type r.upper)

-- the number that a text denotes, as it is in a key
abbrev pub integer_in : Integers → List ℕ → Option ℕ
integer_in integers.Signed text = option_map flipped (i64_in text)
integer_in integers.Unsigned text = u64_in text

-- the type of integers
abbrev pub integer_type : Integers → ValueType
integer_type integers.Signed = types.I64
integer_type integers.Unsigned = types.U64

-- what a lower bound is where its number is not of the type: no key is above all signed numbers, and each is above a negative one
abbrev pub lower_beyond : Integers → Option Bound
lower_beyond integers.Signed = None
lower_beyond integers.Unsigned = Some unbounded

-- what an upper bound is then
abbrev pub upper_beyond : Integers → Option Bound
upper_beyond integers.Signed = Some unbounded
upper_beyond integers.Unsigned = None

-- the bound of keys of a bound that is a number
abbrev pub integer_bound : Integers → List ℕ → Option Bound → Bound → Option Bound
integer_bound integers prefix beyond unbounded = Some unbounded
integer_bound integers prefix beyond (inclusive text) = option_or (option_map (λ n. inclusive (prefix ++ u64_bytes n)) (integer_in integers text)) beyond
integer_bound integers prefix beyond (exclusive text) = option_or (option_map (λ n. exclusive (prefix ++ u64_bytes n)) (integer_in integers text)) beyond

-- a range of keys, if there are both bounds
abbrev pub keys_if : TermState → Option Bound → Option Bound → Option KeyRange
keys_if prefix None upper = None
keys_if prefix (Some lower) None = None
keys_if prefix (Some lower) (Some upper) = Some (record { prefix = prefix; lower = lower; upper = upper })

-- the keys of a range of integers of a type, after what they start with
abbrev pub integer_keys : TermState → Range → Integers → Option KeyRange
integer_keys start r integers =
    let prefix = start.value ++ code_of (integer_type integers) ∷ [] in
    keys_if (record { field = start.field; value = prefix }) (integer_bound integers prefix (lower_beyond integers) r.lower) (integer_bound integers prefix (upper_beyond integers) r.upper)

-- whether a text denotes an integer
abbrev pub is_integer : List ℕ → Bool
is_integer text = is_some (i64_in text) || is_some (u64_in text)

-- whether a bound is a number, or there is none
abbrev pub bounds_integers : Bound → Bool
bounds_integers unbounded = true
bounds_integers (inclusive text) = is_integer text
bounds_integers (exclusive text) = is_integer text

-- whether there is no bound
abbrev pub is_unbounded : Bound → Bool
is_unbounded unbounded = true
is_unbounded (inclusive text) = false
is_unbounded (exclusive text) = false

-- the keys of a range at a path of JSON values: of integers, if each bound is one, otherwise of words
abbrev pub json_keys : (List ℕ → List Word) → Range → Result TermState QueryParserError → Result KeyRanges QueryParserError
json_keys analyze r (Err e) = Err e
json_keys analyze r (Ok start) =
    if bounds_integers r.lower && bounds_integers r.upper then Ok (record { first = integer_keys start r integers.Signed; other = integer_keys start r integers.Unsigned })
    else value_keys analyze (record { field = start.field; value = start.value ++ text_key [] }) types.Json r

-- the keys of a range of values, each after what it starts with
abbrev pub plain_keys : (List ℕ → List Word) → ValueType → Range → Result TermState QueryParserError → Result KeyRanges QueryParserError
plain_keys analyze type r (Err e) = Err e
plain_keys analyze type r (Ok start) = value_keys analyze start type r

-- the path of a name, which is empty if the name has none
abbrev pub path_or_empty : Option (List ℕ) → List ℕ
path_or_empty None = []
path_or_empty (Some path) = path

-- the keys of a range in a field that is indexed; bounds in a field of JSON values are at a path
abbrev pub typed_keys : (List ℕ → List Word) → ℕ → Bool → Option (List ℕ) → Range → ValueType → Result KeyRanges QueryParserError
typed_keys analyze field expand_dots path r type =
    if is_json type && not (is_unbounded r.lower && is_unbounded r.upper) then json_keys analyze r (keys_start field expand_dots (Some (path_or_empty path)))
    else plain_keys analyze type r (keys_start field expand_dots path)

-- the keys of a range in an entry of the schema, if it is indexed, at a path if there is one
abbrev pub entry_keys : (List ℕ → List Word) → ℕ → Option (List ℕ) → Range → Option SchemaEntry → Result KeyRanges QueryParserError
entry_keys analyze field path r None = Err errors.FieldDoesNotExist
entry_keys analyze field path r (Some e) = if e.is_indexed then typed_keys analyze field e.expands_dots path r e.value_type else Err (errors.FieldNotIndexed field)

-- the keys of a range in a field of the schema
abbrev pub keys_in_field : FieldTexts → ℕ → Option (List ℕ) → Range → Result KeyRanges QueryParserError
keys_in_field q field path r = entry_keys (q.analyze field) field path r (slice_get q.entries field)

-- the keys of a range at a path in a field of JSON values
abbrev pub keys_at_path : FieldTexts → List ℕ → Range → Option ℕ → Result KeyRanges QueryParserError
keys_at_path q path r None = Err errors.FieldDoesNotExist
keys_at_path q path r (Some field) = if has_json_values (slice_get q.entries field) then keys_in_field q field (Some path) r else Err errors.FieldDoesNotExist

-- the keys of a range after a name that is cut at its first dot, if it has one
abbrev pub dotted_keys : FieldTexts → Range → Option ℕ → Result KeyRanges QueryParserError
dotted_keys q r None = Err errors.FieldDoesNotExist
dotted_keys q r (Some i) = keys_at_path q (drop (i + 1) r.field_name) r (field_named q.entries (take i r.field_name))

-- the keys of a range after a name: that of a field, or that of one of JSON values and a path after a dot
abbrev pub named_keys : FieldTexts → Range → Option ℕ → Result KeyRanges QueryParserError
named_keys q r (Some field) = keys_in_field q field None r
named_keys q r None = dotted_keys q r (position (λ b. b == 46) r.field_name)

-- the keys of a range of a tree
abbrev pub range_keys : FieldTexts → Range → Result KeyRanges QueryParserError
range_keys q r = named_keys q r (field_named q.entries r.field_name)

-- whether a document has a term with a key in a range, if there is one
abbrev pub has_between : List IndexToken → ℕ → Option KeyRange → Bool
has_between ts doc None = false
has_between ts doc (Some keys) = list_any (is_token_between keys doc) ts

-- whether a document has a term with a key in one of the ranges
abbrev pub has_keys : List IndexToken → ℕ → Result KeyRanges QueryParserError → Bool
has_keys ts doc (Err e) = false
has_keys ts doc (Ok keys) = has_between ts doc keys.first || has_between ts doc keys.other

-- the error of a range, if it has one
abbrev pub range_refusal : Result KeyRanges QueryParserError → Option QueryParserError
range_refusal (Err e) = Some e
range_refusal (Ok keys) = None

-- whether a document has a term, or the phrase where others follow it
abbrev pub has_words : List IndexToken → ℕ → TermState → List PhraseTerm → Bool
has_words ts doc first [] = list_any (is_token_of first doc) ts
has_words ts doc first (o ∷ os) = has_phrase ts doc first (o ∷ os)

-- whether a document has a term, or the phrase within a slop where others follow it
abbrev pub has_words_within : ℕ → List IndexToken → ℕ → TermState → List PhraseTerm → Bool
has_words_within slop ts doc first [] = list_any (is_token_of first doc) ts
has_words_within slop ts doc first (o ∷ os) = has_phrase_within slop ts doc first (o ∷ os)

-- whether a document has a term or a phrase, which may have a slop, a term of which it is a prefix, or a phrase whose last term is one
abbrev pub has_delimited : Delimiter → List IndexToken → ℕ → PhraseState → Bool
has_delimited delimiters.None ts doc p = has_words ts doc p.first p.others
has_delimited delimiters.DoubleQuotes ts doc p = has_words ts doc p.first p.others
has_delimited delimiters.Star ts doc p = list_any (is_token_under p.first doc) ts
has_delimited (delimiters.Slop slop) ts doc p = has_words_within slop ts doc p.first p.others
has_delimited delimiters.Prefix ts doc p = has_starred ts doc p.first p.others

-- whether a document has one of these terms, phrases or prefixes
abbrev pub has_term : Delimiter → List IndexToken → ℕ → List PhraseState → Bool
has_term delimiter ts doc terms = list_any (has_delimited delimiter ts doc) terms

-- whether a document has what a word, a phrase or a prefix means
abbrev pub has_one : Delimiter → List IndexToken → ℕ → Terms → Bool
has_one delimiter ts doc (Err e) = false
has_one delimiter ts doc (Ok terms) = has_term delimiter ts doc terms

-- whether there is a tree
abbrev pub are_some : Asts → Bool
are_some no_asts = false
are_some (and_asts t ts) = true

-- whether a text has no word: it has no error, and is looked up by no term
abbrev pub is_wordless : Terms → Bool
is_wordless (Err e) = false
is_wordless (Ok []) = true
is_wordless (Ok (t ∷ ts)) = false

-- whether a set has values
abbrev pub has_values : ValueSet → Bool
has_values s = nat_lt 0 (length s.values)

-- a tree, unless it is left out
abbrev pub unless : Bool → Ast → Option Ast
unless true t = None
unless false t = Some t

-- what is left of a tree without another one
abbrev pub left_without : Option Ast → Option Ast → Option Ast
left_without None other = None
left_without (Some first) None = Some first
left_without (Some first) (Some other) = Some (without first other)

-- a tree before others, if there is one
abbrev pub put_before : Option Ast → Asts → Asts
put_before None us = us
put_before (Some t) us = and_asts t us

-- What is left of a tree without the texts that have no word: a set goes if no value is left, a part of a tree if none of its parts is, and nothing without a tree is nothing.
abbrev mutual
  pub trimmed : AnalyzedFields → Ast → Option Ast
  trimmed q everything = Some everything
  trimmed q (leaf l) = unless (is_wordless (terms_of q l)) (leaf l)
  trimmed q (ranged r) = Some (ranged r)
  trimmed q (in_set s) = unless (has_values s && is_wordless (set_terms q.texts s)) (in_set s)
  trimmed q (all_of us) = unless (are_some us && not (are_some (each_trimmed q us))) (all_of (each_trimmed q us))
  trimmed q (any_of us) = unless (are_some us && not (are_some (each_trimmed q us))) (any_of (each_trimmed q us))
  trimmed q (without first other) = left_without (trimmed q first) (trimmed q other)

  pub each_trimmed : AnalyzedFields → Asts → Asts
  each_trimmed q no_asts = no_asts
  each_trimmed q (and_asts a us) = put_before (trimmed q a) (each_trimmed q us)

-- Whether a document matches the tree of a text, where no document is `TERMINATED` or above; whether it matches each of some trees, of which there has to be one; or any of them.
abbrev mutual
  pub ast_matches : AnalyzedFields → Ast → List IndexToken → ℕ → Bool
  ast_matches q everything ts doc = nat_lt doc TERMINATED
  ast_matches q (leaf l) ts doc = has_one l.delimiter ts doc (terms_of q l)
  ast_matches q (ranged r) ts doc = has_keys ts doc (range_keys (prefix_texts q) r)
  ast_matches q (in_set s) ts doc = has_one delimiters.None ts doc (set_terms q.texts s)
  ast_matches q (all_of us) ts doc = are_some us && all_match q us ts doc
  ast_matches q (any_of us) ts doc = any_matches q us ts doc
  ast_matches q (without first other) ts doc = ast_matches q first ts doc && not (ast_matches q other ts doc)

  pub all_match : AnalyzedFields → Asts → List IndexToken → ℕ → Bool
  all_match q no_asts ts doc = true
  all_match q (and_asts a us) ts doc = ast_matches q a ts doc && all_match q us ts doc

  pub any_matches : AnalyzedFields → Asts → List IndexToken → ℕ → Bool
  any_matches q no_asts ts doc = false
  any_matches q (and_asts a us) ts doc = ast_matches q a ts doc || any_matches q us ts doc

-- the error of a literal or a set, if it has one
abbrev pub refused : Terms → Option QueryParserError
refused (Err e) = Some e
refused (Ok terms) = None

-- the error of a tree: that of its first word, phrase, range or value of a set that has one
abbrev mutual
  pub ast_refusal : AnalyzedFields → Ast → Option QueryParserError
  ast_refusal q everything = None
  ast_refusal q (leaf l) = refused (terms_of q l)
  ast_refusal q (ranged r) = range_refusal (range_keys (prefix_texts q) r)
  ast_refusal q (in_set s) = refused (set_terms q.texts s)
  ast_refusal q (all_of us) = asts_refusal q us
  ast_refusal q (any_of us) = asts_refusal q us
  ast_refusal q (without first other) = option_or (ast_refusal q first) (ast_refusal q other)

  pub asts_refusal : AnalyzedFields → Asts → Option QueryParserError
  asts_refusal q no_asts = None
  asts_refusal q (and_asts a us) = option_or (ast_refusal q a) (asts_refusal q us)

-- A query means what a tree does, of which nothing is left out, and the tree has no error.
pub record Means (q : AnalyzedFields) (ast : Ast) (query : Query) : Type 0 where
  pub taken : ast_refusal q ast ≡ None
  pub exact : (ts : List IndexToken) (doc : ℕ) → matches query ts doc ≡ ast_matches q ast ts doc
  pub fields : has_fields (length q.texts.entries) query ≡ true
  pub positions : keeps_positions q.texts.entries query ≡ true
  pub covers : covers_docs TERMINATED query ≡ true

-- An allocation failed, or this is the error.
abbrev pub IsWhyRefused : Option QueryParserError → QueryParserError → Type 0
IsWhyRefused refusal e = (e ≡ errors.Fault OutOfMemory) ⊎ (refusal ≡ Some e)

-- the error where nothing is left of a tree
abbrev pub none_left : Option Ast → Option QueryParserError
none_left None = Some errors.NoWords
none_left (Some t) = None

-- the error of a tree: that of its first part which has one, or that nothing is left of it
abbrev pub query_refusal : AnalyzedFields → Ast → Option QueryParserError
query_refusal q ast = option_or (ast_refusal q ast) (none_left (trimmed q ast))

-- whether a document matches what is left of a tree
abbrev pub left_matches : AnalyzedFields → Option Ast → List IndexToken → ℕ → Bool
left_matches q None ts doc = false
left_matches q (Some t) ts doc = ast_matches q t ts doc

-- whether a document matches a tree, without the texts that have no word
abbrev pub query_matches : AnalyzedFields → Ast → List IndexToken → ℕ → Bool
query_matches q ast ts doc = left_matches q (trimmed q ast) ts doc

-- A query means what a tree does, and the tree has no error.
pub record MeansTree (q : AnalyzedFields) (ast : Ast) (query : Query) : Type 0 where
  pub taken : query_refusal q ast ≡ None
  pub exact : (ts : List IndexToken) (doc : ℕ) → matches query ts doc ≡ query_matches q ast ts doc
  pub fields : has_fields (length q.texts.entries) query ≡ true
  pub positions : keeps_positions q.texts.entries query ≡ true
  pub covers : covers_docs TERMINATED query ≡ true

-- A query means what a tree does, or the tree has this error.
abbrev pub IsQueryBy : AnalyzedFields → Ast → Result Query QueryParserError → Type 0
IsQueryBy q ast (Ok query) = MeansTree q ast query
IsQueryBy q ast (Err e) = IsWhyRefused (query_refusal q ast) e

-- the error of the tree of a text, or the error of the text if it has no tree
abbrev pub read_refusal : AnalyzedFields → Result Ast ParseError → Option QueryParserError
read_refusal q (Ok ast) = query_refusal q ast
read_refusal q (Err e) = Some (as_parser_error e)

-- the error of a text
abbrev pub text_refusal_by : AnalyzedFields → List ℕ → Option QueryParserError
text_refusal_by q text = read_refusal q (parsed MAX_NESTING text)

-- whether a document matches the tree of a text, if it has one
abbrev pub read_matches : AnalyzedFields → Result Ast ParseError → List IndexToken → ℕ → Bool
read_matches q (Ok ast) ts doc = query_matches q ast ts doc
read_matches q (Err e) ts doc = false

-- whether a document matches a text
abbrev pub text_matches_by : AnalyzedFields → List ℕ → List IndexToken → ℕ → Bool
text_matches_by q text ts doc = read_matches q (parsed MAX_NESTING text) ts doc

-- A query means what a text does.
pub record MeansTextBy (q : AnalyzedFields) (text : List ℕ) (query : Query) : Type 0 where
  pub taken : text_refusal_by q text ≡ None
  pub exact : (ts : List IndexToken) (doc : ℕ) → matches query ts doc ≡ text_matches_by q text ts doc
  pub fields : has_fields (length q.texts.entries) query ≡ true
  pub positions : keeps_positions q.texts.entries query ≡ true
  pub covers : covers_docs TERMINATED query ≡ true

-- A query means what a text does, or the text has this error.
abbrev pub IsQueryOfTextBy : AnalyzedFields → List ℕ → Result Query QueryParserError → Type 0
IsQueryOfTextBy q text (Ok query) = MeansTextBy q text query
IsQueryOfTextBy q text (Err e) = IsWhyRefused (text_refusal_by q text) e

-- whether a document matches a text, where all fields have one analyzer
abbrev pub text_matches : QueryFields → List ℕ → List IndexToken → ℕ → Bool
text_matches q text ts doc = text_matches_by (by_one q) text ts doc

-- the error of a text, where all fields have one analyzer
abbrev pub text_refusal : QueryFields → List ℕ → Option QueryParserError
text_refusal q text = text_refusal_by (by_one q) text

-- A query matches what a text says, where all fields have one analyzer.
abbrev pub MeansText : QueryFields → List ℕ → Query → Type 0
MeansText q text query = MeansTextBy (by_one q) text query

-- A result is the query of a tree or its error, where all fields have one analyzer.
abbrev pub IsQueryOf : QueryFields → Ast → Result Query QueryParserError → Type 0
IsQueryOf q ast result = IsQueryBy (by_one q) ast result

-- A result is the query of a text or its error, where all fields have one analyzer.
abbrev pub IsQueryOfText : QueryFields → List ℕ → Result Query QueryParserError → Type 0
IsQueryOfText q text result = IsQueryOfTextBy (by_one q) text result

-- the name of a literal, a range or a set that is neither
abbrev pub unknown_name : List SchemaEntry → Option (List ℕ) → Option (List ℕ)
unknown_name entries None = None
unknown_name entries (Some name) = if names_field entries name (field_named entries name) then None else Some name

-- the first name in a tree that is neither
abbrev mutual
  pub unknown_in : List SchemaEntry → Ast → Option (List ℕ)
  unknown_in entries everything = None
  unknown_in entries (leaf l) = unknown_name entries l.field_name
  unknown_in entries (ranged r) = unknown_name entries (Some r.field_name)
  unknown_in entries (in_set s) = unknown_name entries (Some s.field_name)
  unknown_in entries (all_of us) = unknown_among entries us
  unknown_in entries (any_of us) = unknown_among entries us
  unknown_in entries (without first other) = option_or (unknown_in entries first) (unknown_in entries other)

  pub unknown_among : List SchemaEntry → Asts → Option (List ℕ)
  unknown_among entries no_asts = None
  unknown_among entries (and_asts a us) = option_or (unknown_in entries a) (unknown_among entries us)

-- The words, phrases, ranges, signs and parentheses of a text.
use Rattle.std.specs.Prelude.{◌≡◌, ◌<◌, ℕ, zero, suc, ◌-◌, Bool, true, false, ◌&&◌, ◌||◌, ◌==◌, not, List, [], ◌∷◌, ◌++◌, Option, None, Some, Result, Ok, Err, option_map, bytes_eq, codes, drop, take, if◌then◌else◌, length, nat_lt, take_while}
use Rattle.std.specs.Str.{all_ascii_digits}
use Rattle.std.specs.Str.Parse.{digits_value}
use Rattle.ii_query_grammar.specs.declared.cut.Stop.{Stop}
use Rattle.ii_query_grammar.specs.declared.cut.Stop.TheVariants as stops
use Rattle.ii_query_grammar.specs.declared.lexeme.BoundView.{BoundView}
use Rattle.ii_query_grammar.specs.declared.lexeme.BoundView.TheVariants as seen_bounds
use Rattle.ii_query_grammar.specs.declared.lexeme.Edge.{Edge}
use Rattle.ii_query_grammar.specs.declared.lexeme.Edge.TheVariants as edges
use Rattle.ii_query_grammar.specs.declared.lexeme.Lexeme.{Lexeme as SeenLexeme}
use Rattle.ii_query_grammar.specs.declared.lexeme.Lexeme.TheVariants as seen
use Rattle.ii_query_grammar.specs.declared.lexeme.LiteralView.{LiteralView}
use Rattle.ii_query_grammar.specs.declared.lexeme.RangeView.{RangeView}
use Rattle.ii_query_grammar.specs.declared.lexeme.SetView.{SetView}
use Rattle.ii_query_grammar.specs.declared.lexeme.Token.{Token as SeenToken}
use Rattle.ii_query_grammar.specs.declared.parse_error.Feature.{Feature}
use Rattle.ii_query_grammar.specs.declared.parse_error.Feature.TheVariants as features
use Rattle.ii_query_grammar.specs.declared.parse_error.ParseError.{ParseError}
use Rattle.ii_query_grammar.specs.declared.parse_error.ParseError.TheVariants.{Syntax, Unsupported}
use Rattle.ii_query_grammar.specs.declared.parse_error.Expected.{Expected}
use Rattle.ii_query_grammar.specs.declared.parse_error.Expected.TheVariants as expected
use Rattle.ii_query_grammar.specs.declared.sets.TheConstants.{MAX_SET_VALUES}
use Rattle.ii_query_grammar.specs.declared.user_input_ast.Delimiter.{Delimiter}
use Rattle.ii_query_grammar.specs.declared.user_input_ast.Delimiter.TheVariants as delimiters
use Rattle.ii_query_grammar.specs.Trees.{Bound, Literal, Range, ValueSet, exclusive, inclusive, unbounded}
use Rattle.std.specs.Borrow.{Bor}
use Rattle.std.specs.Option.{option_copied}

-- A lexeme; a broken one holds its error.
pub data Lexeme : Type 0 where
  asterisk : Lexeme
  literal : Literal → Lexeme
  range : Range → Lexeme
  value_set : ValueSet → Lexeme
  opening : Lexeme
  closing : Lexeme
  minus : Lexeme
  and_word : Lexeme
  or_word : Lexeme
  broken : ParseError → Lexeme

-- a lexeme, and the byte at which it starts
pub record Token : Type 0 where
  pub at : ℕ
  pub lexeme : Lexeme

-- the first token of a text, and the text after it
pub record Front : Type 0 where
  pub token : Token
  pub rest : List ℕ

-- a space, a tab, or an end of a line
abbrev pub is_space : ℕ → Bool
is_space b = b == 32 || b == 9 || b == 10 || b == 13

-- whether a byte ends a word: a space, `"`, `(`, `)`, `:`, or an operator `*`, `?`, `~`, `^`, `[` or `{`
abbrev pub ends_word : ℕ → Bool
ends_word b = is_space b || b == 34 || b == 40 || b == 41 || b == 58 || b == 42 || b == 63 || b == 126 || b == 94 || b == 91 || b == 123

-- whether a backslash makes a byte literal: one that ends a word, or `-`, `+`, `/`, `<`, `>`, `]` or `}`
abbrev pub is_special : ℕ → Bool
is_special b = ends_word b || b == 45 || b == 43 || b == 47 || b == 60 || b == 62 || b == 93 || b == 125

-- whether a byte ends a word that is a bound of a range: also `]` and `}` do
abbrev pub ends_bound : ℕ → Bool
ends_bound b = ends_word b || b == 93 || b == 125

-- whether a byte is a stop, given whether a backslash comes before it: the end of a word, a phrase or a bound, a byte
-- that a backslash makes literal, or one that must be escaped in a word or a phrase
abbrev pub stops_at : Stop → ℕ → Bool → Bool
stops_at stops.WordEnd b escaped = ends_word b && not escaped
stops_at stops.PhraseEnd b escaped = b == 34 && not escaped
stops_at stops.BoundEnd b escaped = ends_bound b && not escaped
stops_at stops.Escaped b escaped = is_special b && escaped
stops_at stops.WordEscape b escaped = is_special b && (ends_word b || escaped)
stops_at stops.PhraseEscape b escaped = is_special b && (b == 34 || escaped)

-- the offset of the first stop, or the length, given whether a backslash comes before the text
abbrev pub place_of : Stop → Bool → List ℕ → ℕ
place_of stop escaped [] = 0
place_of stop escaped (b ∷ bs) = if stops_at stop b escaped then 0 else suc (place_of stop (b == 92) bs)

-- whether a byte is a backslash that makes the next byte literal
abbrev pub is_escape : ℕ → List ℕ → Bool
is_escape b [] = false
is_escape b (c ∷ cs) = is_special c && b == 92

-- the text of a word or a phrase, without each backslash before a special byte
abbrev pub unescaped : List ℕ → List ℕ
unescaped [] = []
unescaped (b ∷ bs) = if is_escape b bs then unescaped bs else b ∷ unescaped bs

-- the text after its leading spaces
abbrev pub after_spaces : List ℕ → List ℕ
after_spaces text = drop (length (take_while is_space text)) text

-- the word or the phrase at the start
abbrev pub before_stop : Stop → List ℕ → List ℕ
before_stop stop text = take (place_of stop false text) text

-- the text after it
abbrev pub from_stop : Stop → List ℕ → List ℕ
from_stop stop text = drop (place_of stop false text) text

-- whether a text is empty
abbrev pub is_empty : List ℕ → Bool
is_empty [] = true
is_empty (b ∷ bs) = false

-- whether a text starts with a byte
abbrev pub begins : ℕ → List ℕ → Bool
begins c [] = false
begins c (b ∷ bs) = b == c

-- whether a byte may come after a prefix: a space or `)`
abbrev pub is_prefix_end : ℕ → Bool
is_prefix_end b = is_space b || b == 41

-- whether a prefix may end before a text
abbrev pub ends_prefix : List ℕ → Bool
ends_prefix [] = true
ends_prefix (b ∷ bs) = is_prefix_end b

-- whether a text starts with a `*` that ends a prefix
abbrev pub has_star : List ℕ → Bool
has_star text = begins 42 text && ends_prefix (drop 1 text)

-- the unsupported feature that a byte means anywhere in a word
abbrev pub feature_of : ℕ → Option Feature
feature_of b =
    if b == 42 || b == 63 then Some features.Wildcards
    else if b == 126 then Some features.Fuzzy
    else if b == 94 then Some features.Boosts
    else if b == 91 || b == 123 then Some features.Ranges
    else None

-- the unsupported feature that a byte means at the start of a word
abbrev pub first_feature_of : ℕ → Option Feature
first_feature_of b =
    if b == 47 then Some features.RegularExpressions
    else if b == 60 || b == 62 then Some features.Comparisons
    else None

-- the unsupported feature at the byte after a word
abbrev pub feature_after : List ℕ → Option Feature
feature_after [] = None
feature_after (b ∷ bs) = feature_of b

-- the unsupported feature at the start of a word
abbrev pub feature_in_front : List ℕ → Option Feature
feature_in_front [] = None
feature_in_front (b ∷ bs) = first_feature_of b

-- a lexeme at a byte, and the text after it
abbrev pub front_with : ℕ → Lexeme → List ℕ → Front
front_with at lexeme rest = record { token = record { at = at; lexeme = lexeme }; rest = rest }

-- an error at a byte; nothing is read after it
abbrev pub broken_front : ℕ → ParseError → Front
broken_front at error = front_with at (broken error) []

-- the first lexeme, unless there is an unsupported feature at this byte
abbrev pub unless_feature : Option Feature → ℕ → Front → Front
unless_feature None at front = front
unless_feature (Some feature) at front = broken_front at (Unsupported feature at)

-- a word, a phrase or a prefix, from its text in the query
abbrev pub literal_with : Option (List ℕ) → List ℕ → Delimiter → Lexeme
literal_with field phrase delimiter = literal (record { field_name = option_map unescaped field; phrase = unescaped phrase; delimiter = delimiter })

-- the number up to 4294967295 that decimal digits denote
abbrev pub slop_of : List ℕ → Option ℕ
slop_of digits = if not (is_empty digits) && all_ascii_digits digits && nat_lt (digits_value 10 digits) 4294967296 then Some (digits_value 10 digits) else None

-- a phrase with the slop that is expected at a byte, if it is a number, and the text after it, which begins with no operator
abbrev pub phrase_with_slop : ℕ → ℕ → ℕ → Option (List ℕ) → List ℕ → List ℕ → Option ℕ → Front
phrase_with_slop size place at field phrase rest None = broken_front place (Syntax expected.Slop place)
phrase_with_slop size place at field phrase rest (Some slop) = unless_feature (feature_after rest) (size - length rest) (front_with at (literal_with field phrase (delimiters.Slop slop)) rest)

-- a phrase without a slop, from the text after its last quote: its last word is a prefix if a `*` that ends a prefix follows
abbrev pub starred_phrase : ℕ → Option (List ℕ) → List ℕ → List ℕ → Front
starred_phrase at field phrase rest =
    if has_star rest then front_with at (literal_with field phrase delimiters.Prefix) (drop 1 rest)
    else front_with at (literal_with field phrase delimiters.DoubleQuotes) rest

-- a phrase, from the text after its last quote: after a `~` the word that is its slop
abbrev pub closed_phrase : ℕ → ℕ → Option (List ℕ) → List ℕ → List ℕ → Front
closed_phrase size at field phrase rest =
    if begins 126 rest then phrase_with_slop size (size - length (drop 1 rest)) at field phrase (from_stop stops.WordEnd (drop 1 rest)) (slop_of (before_stop stops.WordEnd (drop 1 rest)))
    else starred_phrase at field phrase rest

-- a phrase, from the text at its end: a quote, or nothing
abbrev pub ended_phrase : ℕ → ℕ → Option (List ℕ) → List ℕ → List ℕ → Front
ended_phrase size at field phrase rest = if begins 34 rest then closed_phrase size at field phrase (drop 1 rest) else broken_front size (Syntax expected.Quote size)

-- a phrase, from the text after its first quote
abbrev pub phrase_front : ℕ → ℕ → Option (List ℕ) → List ℕ → Front
phrase_front size at field text = ended_phrase size at field (before_stop stops.PhraseEnd text) (from_stop stops.PhraseEnd text)

-- a word after a field name, from the word and the text after it
abbrev pub value_word : ℕ → ℕ → List ℕ → List ℕ → List ℕ → Front
value_word size at name word rest =
    if is_empty word then broken_front (size - length rest) (Syntax expected.Value (size - length rest))
    else front_with at (literal_with (Some name) word delimiters.None) rest

-- The text of a bound, or none for `*`, and the text after it.
pub record Limit : Type 0 where
  pub text : Option (List ℕ)
  pub rest : List ℕ

-- a text between quotes that is a bound, from the text at its end: a quote, or nothing
abbrev pub quoted_limit : ℕ → List ℕ → List ℕ → Result Limit ParseError
quoted_limit size text rest =
    if begins 34 rest then Ok (record { text = Some (unescaped text); rest = drop 1 rest })
    else Err (Syntax expected.Quote size)

-- a word that is a bound, and the text after it
abbrev pub word_limit : Expected → ℕ → List ℕ → List ℕ → Result Limit ParseError
word_limit wanted size word rest =
    if is_empty word then Err (Syntax wanted (size - length rest))
    else Ok (record { text = Some (unescaped word); rest = rest })

-- the text between quotes or the word at the start of a text, where a word ends at this stop, or this is expected there
abbrev pub text_limit : Expected → Stop → ℕ → List ℕ → Result Limit ParseError
text_limit wanted stop size text =
    if begins 34 text then quoted_limit size (before_stop stops.PhraseEnd (drop 1 text)) (from_stop stops.PhraseEnd (drop 1 text))
    else word_limit wanted size (before_stop stop text) (from_stop stop text)

-- the bound at the start of a text: a text between quotes, a word, or `*` for none
abbrev pub limit_at : ℕ → List ℕ → Result Limit ParseError
limit_at size text =
    if begins 42 text then Ok (record { text = None; rest = drop 1 text })
    else text_limit expected.Bound stops.BoundEnd size text

-- the text after the word `TO` at the start
abbrev pub after_to : ℕ → List ℕ → Result (List ℕ) ParseError
after_to size text =
    if bytes_eq (before_stop stops.BoundEnd text) (codes "TO") then Ok (from_stop stops.BoundEnd text)
    else Err (Syntax expected.To (size - length text))

-- a bound, by its side of a bracket
abbrev pub bound_with : Edge → Option (List ℕ) → Bound
bound_with edges.Inclusive None = unbounded
bound_with edges.Inclusive (Some text) = inclusive text
bound_with edges.Exclusive None = unbounded
bound_with edges.Exclusive (Some text) = exclusive text

-- A range, and the text after it.
pub record RangeFront : Type 0 where
  pub range : Range
  pub rest : List ℕ

-- a range of a field with its bounds, and the text after it
abbrev pub range_with : List ℕ → Bound → Bound → List ℕ → RangeFront
range_with name lower upper rest = record { range = record { field_name = unescaped name; lower = lower; upper = upper }; rest = rest }

-- a range from the text at its end: `]`, or `}` if the upper bound does not belong to it
abbrev pub ended_range : ℕ → List ℕ → Bound → Option (List ℕ) → List ℕ → Result RangeFront ParseError
ended_range size name lower upper text =
    if begins 93 text then Ok (range_with name lower (bound_with edges.Inclusive upper) (drop 1 text))
    else if begins 125 text then Ok (range_with name lower (bound_with edges.Exclusive upper) (drop 1 text))
    else Err (Syntax expected.RangeEnd (size - length text))

-- a range from its lower bound and its upper one, which is read
abbrev pub range_to : ℕ → List ℕ → Bound → Result Limit ParseError → Result RangeFront ParseError
range_to size name lower (Err e) = Err e
range_to size name lower (Ok upper) = ended_range size name lower upper.text (after_spaces upper.rest)

-- a range from its lower bound and the text after the word `TO`
abbrev pub range_after_to : ℕ → List ℕ → Bound → Result (List ℕ) ParseError → Result RangeFront ParseError
range_after_to size name lower (Err e) = Err e
range_after_to size name lower (Ok text) = range_to size name lower (limit_at size (after_spaces text))

-- a range from its lower bound, which is read
abbrev pub range_from : ℕ → List ℕ → Edge → Result Limit ParseError → Result RangeFront ParseError
range_from size name edge (Err e) = Err e
range_from size name edge (Ok lower) = range_after_to size name (bound_with edge lower.text) (after_to size (after_spaces lower.rest))

-- a range from the text after its first bracket
abbrev pub range_between : ℕ → List ℕ → Edge → List ℕ → Result RangeFront ParseError
range_between size name edge text = range_from size name edge (limit_at size (after_spaces text))

-- a range that has only a lower bound
abbrev pub range_above : List ℕ → Edge → Result Limit ParseError → Result RangeFront ParseError
range_above name edge (Err e) = Err e
range_above name edge (Ok lower) = Ok (range_with name (bound_with edge lower.text) unbounded lower.rest)

-- a range that has only an upper bound
abbrev pub range_below : List ℕ → Edge → Result Limit ParseError → Result RangeFront ParseError
range_below name edge (Err e) = Err e
range_below name edge (Ok upper) = Ok (range_with name unbounded (bound_with edge upper.text) upper.rest)

-- the range of a comparison with `>` or `>=`, from the text after the `>`
abbrev pub greater : ℕ → List ℕ → List ℕ → Result RangeFront ParseError
greater size name text =
    if begins 61 text then range_above name edges.Inclusive (text_limit expected.Bound stops.WordEnd size (drop 1 text))
    else range_above name edges.Exclusive (text_limit expected.Bound stops.WordEnd size text)

-- the range of a comparison with `<` or `<=`, from the text after the `<`
abbrev pub less : ℕ → List ℕ → List ℕ → Result RangeFront ParseError
less size name text =
    if begins 61 text then range_below name edges.Inclusive (text_limit expected.Bound stops.WordEnd size (drop 1 text))
    else range_below name edges.Exclusive (text_limit expected.Bound stops.WordEnd size text)

-- the range or the comparison at the start of a text, if there is one
abbrev pub range_at : ℕ → List ℕ → List ℕ → Option (Result RangeFront ParseError)
range_at size name text =
    if begins 91 text then Some (range_between size name edges.Inclusive (drop 1 text))
    else if begins 123 text then Some (range_between size name edges.Exclusive (drop 1 text))
    else if begins 62 text then Some (greater size name (drop 1 text))
    else if begins 60 text then Some (less size name (drop 1 text))
    else None

-- the lexeme of a range and the text after it, or the error
abbrev pub range_front : ℕ → Result RangeFront ParseError → Front
range_front at (Ok f) = front_with at (range f.range) f.rest
range_front at (Err e) = broken_front at e

-- the first lexeme, unless there is a range
abbrev pub unless_range : Option (Result RangeFront ParseError) → ℕ → Front → Front
unless_range None at front = front
unless_range (Some read) at front = range_front at read

-- The values of a set, and the text after its `]`.
pub record SetFront : Type 0 where
  pub values : List (List ℕ)
  pub rest : List ℕ

-- the next value of a set, or none for its `]`, which is expected where no value is left
abbrev pub next_value : ℕ → ℕ → List ℕ → Result Limit ParseError
next_value left size text =
    if begins 93 text then Ok (record { text = None; rest = drop 1 text })
    else if left == 0 then Err (Syntax expected.FewerValues (size - length text))
    else text_limit expected.SetValue stops.BoundEnd size text

-- values before those that follow
abbrev pub with_values : List (List ℕ) → Result SetFront ParseError → Result SetFront ParseError
with_values values (Err e) = Err e
with_values values (Ok f) = Ok (record { values = values ++ f.values; rest = f.rest })

-- a value and those that follow, or the end of a set
abbrev pub value_and : (List ℕ → Result SetFront ParseError) → Option (List ℕ) → List ℕ → Result SetFront ParseError
value_and others None rest = Ok (record { values = []; rest = rest })
value_and others (Some value) rest = with_values (value ∷ []) (others rest)

-- the same, where the value is read
abbrev pub values_from : (List ℕ → Result SetFront ParseError) → Result Limit ParseError → Result SetFront ParseError
values_from others (Err e) = Err e
values_from others (Ok l) = value_and others l.text l.rest

-- the values of a set, of which so many may be left, from the text after its `[` or a value
unfoldable pub set_values : ℕ → ℕ → List ℕ → Result SetFront ParseError
set_values zero size text = values_from (λ rest. Ok (record { values = []; rest = rest })) (next_value zero size (after_spaces text))
set_values (suc left) size text = values_from (set_values left size) (next_value (suc left) size (after_spaces text))

-- whether a word and the text after it begin a set: `IN`, and a `[` after any spaces
abbrev pub is_set : List ℕ → List ℕ → Bool
is_set word rest = bytes_eq word (codes "IN") && begins 91 (after_spaces rest)

-- the text after the `[` of a set
abbrev pub after_bracket : List ℕ → List ℕ
after_bracket rest = drop 1 (after_spaces rest)

-- the lexeme of a set, or its error
abbrev pub set_lexeme : List ℕ → Result SetFront ParseError → Lexeme
set_lexeme name (Err e) = broken e
set_lexeme name (Ok f) = value_set (record { field_name = unescaped name; values = f.values })

-- the values of a set that is read
abbrev pub set_values_of : Result SetFront ParseError → Result (List (List ℕ)) ParseError
set_values_of (Err e) = Err e
set_values_of (Ok f) = Ok f.values

-- the text after a set that is read
abbrev pub set_rest : Result SetFront ParseError → Result (List ℕ) ParseError
set_rest (Err e) = Err e
set_rest (Ok f) = Ok f.rest

-- the lexeme of a set and the text after it, or the error
abbrev pub set_front : ℕ → List ℕ → Result SetFront ParseError → Front
set_front at name (Err e) = broken_front at e
set_front at name (Ok f) = front_with at (set_lexeme name (Ok f)) f.rest

-- a prefix after a field name, or the range without bounds if the prefix is empty
abbrev pub star_lexeme : List ℕ → List ℕ → Lexeme
star_lexeme name word =
    if is_empty word then range (record { field_name = unescaped name; lower = unbounded; upper = unbounded })
    else literal_with (Some name) word delimiters.Star

-- a set, a word or a prefix after a field name, from the word and the text after it
abbrev pub value_or_prefix : ℕ → ℕ → List ℕ → List ℕ → List ℕ → Front
value_or_prefix size at name word rest =
    if is_set word rest then set_front at name (set_values MAX_SET_VALUES size (after_bracket rest))
    else if has_star rest then front_with at (star_lexeme name word) (drop 1 rest)
    else unless_feature (feature_after rest) (size - length rest) (value_word size at name word rest)

-- a phrase, a range, a set, a word or a prefix after a field name and its colon
abbrev pub value_front : ℕ → ℕ → List ℕ → List ℕ → Front
value_front size at name text =
    if begins 34 text then phrase_front size at (Some name) (drop 1 text)
    else unless_range (range_at size name text) at
    (unless_feature (feature_in_front text) (size - length text)
    (value_or_prefix size at name (before_stop stops.WordEnd text) (from_stop stops.WordEnd text)))

-- the kind of a word: an operator, or a word to search for
abbrev pub word_lexeme : List ℕ → Lexeme
word_lexeme word =
    if bytes_eq word (codes "AND") then and_word
    else if bytes_eq word (codes "OR") then or_word
    else if bytes_eq word (codes "NOT") then minus
    else literal_with None word delimiters.None

-- a word, given the text after it: a field name if a colon follows
abbrev pub word_or_name : ℕ → ℕ → List ℕ → List ℕ → Front
word_or_name size at word rest =
    if is_empty word then broken_front at (Syntax expected.Operand at)
    else if begins 58 rest then value_front size at word (drop 1 rest)
    else front_with at (word_lexeme word) rest

-- whether a word and the text after it are a prefix: a `*` follows the word, which isn't empty
abbrev pub is_prefix : List ℕ → List ℕ → Bool
is_prefix word rest = not (is_empty word) && has_star rest

-- a word, a field name or a prefix, given the text after it; a set needs a field name before it
abbrev pub word_or_prefix : ℕ → ℕ → List ℕ → List ℕ → Front
word_or_prefix size at word rest =
    if is_set word rest then broken_front at (Unsupported features.Sets at)
    else if is_prefix word rest then front_with at (literal_with None word delimiters.Star) (drop 1 rest)
    else unless_feature (feature_after rest) (size - length rest) (word_or_name size at word rest)

-- a word or a prefix at the start
abbrev pub word_front : ℕ → ℕ → List ℕ → Front
word_front size at text =
    unless_feature (feature_in_front text) at
    (word_or_prefix size at (before_stop stops.WordEnd text) (from_stop stops.WordEnd text))

-- the first lexeme of a text that starts at a byte
abbrev pub front_at : ℕ → ℕ → List ℕ → Front
front_at size at text =
    if begins 40 text then front_with at opening (drop 1 text)
    else if begins 41 text then front_with at closing (drop 1 text)
    else if begins 45 text then front_with at minus (drop 1 text)
    else if begins 43 text then broken_front at (Unsupported features.RequiredClauses at)
    else if begins 34 text then phrase_front size at None (drop 1 text)
    else if has_star text then front_with at asterisk (drop 1 text)
    else word_front size at text

-- the first lexeme of a text that is the end of one of this length
abbrev pub front : ℕ → List ℕ → Front
front size text = front_at size (size - length text) text

-- the first lexeme, and those of the text after it
abbrev pub one_more : (List ℕ → List Token) → ℕ → List ℕ → List Token
one_more others size text = if is_empty text then [] else (front size text).token ∷ others (front size text).rest

-- the first lexemes of a text that is the end of one of this length, up to a maximum number
unfoldable pub tokens : ℕ → ℕ → List ℕ → List Token
tokens zero size text = []
tokens (suc n) size text = one_more (λ rest. tokens n size rest) size (after_spaces text)

-- the lexemes of a text, each of at least one byte
abbrev pub lexemes : ℕ → List ℕ → List Token
lexemes size text = tokens (length text) size text

-- the model of a word or a phrase
abbrev pub literal_seen : LiteralView → Literal
literal_seen l = record { field_name = option_map unescaped (option_copied l.field_name); phrase = unescaped l.phrase.now; delimiter = l.delimiter }

-- the model of a bound
abbrev pub bound_seen : BoundView → Bound
bound_seen seen_bounds.Unbounded = unbounded
bound_seen (seen_bounds.Inclusive text) = inclusive (unescaped text.now)
bound_seen (seen_bounds.Exclusive text) = exclusive (unescaped text.now)

-- the model of a range
abbrev pub range_seen : RangeView → Range
range_seen r = record { field_name = unescaped r.field_name.now; lower = bound_seen r.lower; upper = bound_seen r.upper }

-- the model of a set
abbrev pub set_seen : SetView → Lexeme
set_seen s = set_lexeme s.field_name.now (set_values MAX_SET_VALUES s.size s.text.now)

-- the model of the text of a bound and the text after it
abbrev pub limit_seen : Option (Bor (List ℕ)) → Bor (List ℕ) → Limit
limit_seen text rest = record { text = option_map unescaped (option_copied text); rest = rest.now }

-- The text of a bound was read, or the error is this.
abbrev pub IsLimit : Result Limit ParseError → Result (Option (Bor (List ℕ)) × Bor (List ℕ)) ParseError → Type 0
IsLimit limit (Ok parts) = limit ≡ Ok (limit_seen parts.0 parts.1)
IsLimit limit (Err e) = limit ≡ Err e

-- The next value of a set was read, or its end, or the error is this; then so many values are left, and this text.
abbrev pub IsValue : ℕ → ℕ → List ℕ → ℕ → List ℕ → Result (Option (Bor (List ℕ))) ParseError → Type 0
IsValue left size text less rest (Err e) = set_values left size text ≡ Err e
IsValue left size text less rest (Ok None) = set_values left size text ≡ Ok (record { values = []; rest = rest })
IsValue left size text less rest (Ok (Some value)) = (less < left) × (set_values left size text ≡ with_values (unescaped value.now ∷ []) (set_values less size rest))

-- A text follows, or the error is this.
abbrev pub IsRest : Result (List ℕ) ParseError → Result (Bor (List ℕ)) ParseError → Type 0
IsRest text (Ok rest) = text ≡ Ok rest.now
IsRest text (Err e) = text ≡ Err e

-- A range was read, or the error is this.
abbrev pub IsRange : Result RangeFront ParseError → Result (RangeView × Bor (List ℕ)) ParseError → Type 0
IsRange found (Ok parts) = found ≡ Ok (record { range = range_seen parts.0; rest = parts.1.now })
IsRange found (Err e) = found ≡ Err e

-- There is a range or a comparison, and it was read, or the error is this.
abbrev pub IsRangeAt : Option (Result RangeFront ParseError) → Result (RangeView × Bor (List ℕ)) ParseError → Type 0
IsRangeAt None read = ⊥
IsRangeAt (Some found) read = IsRange found read

-- the model of a lexeme
abbrev pub lexeme_seen : SeenLexeme → Lexeme
lexeme_seen seen.All = asterisk
lexeme_seen (seen.Literal l) = literal (literal_seen l)
lexeme_seen (seen.Range r) = range (range_seen r)
lexeme_seen (seen.Set s) = set_seen s
lexeme_seen seen.Opening = opening
lexeme_seen seen.Closing = closing
lexeme_seen seen.Minus = minus
lexeme_seen seen.And = and_word
lexeme_seen seen.Or = or_word
lexeme_seen (seen.Broken error) = broken error

-- the model of a token
abbrev pub token_seen : SeenToken → Token
token_seen t = record { at = t.at; lexeme = lexeme_seen t.lexeme }

-- The first token of a text, and the text after it.
pub record IsFront (front : Front) (token : Token) (rest : List ℕ) : Type 0 where
  pub token_is : token ≡ front.token
  pub rest_is : rest ≡ front.rest

-- A text starts with a byte, and this is the text after it.
abbrev pub Strips : ℕ → List ℕ → Bor (List ℕ) → Type 0
Strips byte text rest = (begins byte text ≡ true) × (rest.now ≡ drop 1 text)

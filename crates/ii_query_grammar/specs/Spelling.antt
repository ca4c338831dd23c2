-- Trees as texts.
use Rattle.std.specs.Prelude.{ℕ, suc, ◌-◌, Bool, true, false, ◌&&◌, not, ◌==◌, List, [], ◌∷◌, ◌++◌, Option, None, Some, bytes_eq, codes, decimal, if◌then◌else◌, length, max, nat_le, nat_lt, slice_index}
use Rattle.std.specs.List.{list_all}
use Rattle.ii_query_grammar.specs.declared.cut.Stop.{Stop}
use Rattle.ii_query_grammar.specs.declared.cut.Stop.TheVariants as stops
use Rattle.ii_query_grammar.specs.declared.user_input_ast.Delimiter.{Delimiter}
use Rattle.ii_query_grammar.specs.declared.sets.TheConstants.{MAX_SET_VALUES}
use Rattle.ii_query_grammar.specs.declared.user_input_ast.Delimiter.TheVariants as delimiters
use Rattle.ii_query_grammar.specs.Lexemes.{is_empty, stops_at}
use Rattle.ii_query_grammar.specs.Trees.{Ast, Asts, Bound, Literal, Range, ValueSet, all_of, and_asts, any_of, everything, exclusive, in_set, inclusive, leaf, no_asts, ranged, unbounded, without}

-- a text with each byte escaped that must be, given whether a backslash comes before the text
abbrev pub escaped : Stop → Bool → List ℕ → List ℕ
escaped stop after [] = []
escaped stop after (b ∷ bs) = if stops_at stop b after then 92 ∷ b ∷ escaped stop false bs else b ∷ escaped stop (b == 92) bs

-- a text as a word: a special first byte is always escaped
abbrev pub word_text : List ℕ → List ℕ
word_text text = escaped stops.WordEscape true text

-- a text between quotes
abbrev pub quoted : List ℕ → List ℕ
quoted text = 34 ∷ escaped stops.PhraseEscape false text ++ 34 ∷ []

-- a phrase by its delimiter
abbrev pub delimited : Delimiter → List ℕ → List ℕ
delimited delimiters.None phrase = word_text phrase
delimited delimiters.DoubleQuotes phrase = quoted phrase
delimited delimiters.Star phrase = word_text phrase ++ 42 ∷ []
delimited (delimiters.Slop slop) phrase = quoted phrase ++ 126 ∷ decimal slop
delimited delimiters.Prefix phrase = quoted phrase ++ 42 ∷ []

-- the text of a word or a phrase without the name of its field
abbrev pub phrase_text : Literal → List ℕ
phrase_text l = delimited l.delimiter l.phrase

-- the name of a field and a colon, if there is one
abbrev pub field_text : Option (List ℕ) → List ℕ
field_text None = []
field_text (Some name) = word_text name ++ 58 ∷ []

-- the text of a word or a phrase, with the name of its field
abbrev pub literal_text : Literal → List ℕ
literal_text l = field_text l.field_name ++ phrase_text l

-- a lower bound after its bracket
abbrev pub lower_text : Bound → List ℕ
lower_text unbounded = codes "[*"
lower_text (inclusive text) = 91 ∷ quoted text
lower_text (exclusive text) = 123 ∷ quoted text

-- an upper bound before its bracket
abbrev pub upper_text : Bound → List ℕ
upper_text unbounded = codes "*]"
upper_text (inclusive text) = quoted text ++ 93 ∷ []
upper_text (exclusive text) = quoted text ++ 125 ∷ []

-- the text of a range
abbrev pub range_text : Range → List ℕ
range_text r = word_text r.field_name ++ 58 ∷ (lower_text r.lower ++ codes " TO " ++ upper_text r.upper)

-- the values of a set and its end, with one text before the first value and a space before each other
abbrev pub values_text : List ℕ → List (List ℕ) → List ℕ
values_text before [] = 93 ∷ []
values_text before (value ∷ values) = before ++ quoted value ++ values_text (32 ∷ []) values

-- the text of a set
abbrev pub set_text : ValueSet → List ℕ
set_text s = word_text s.field_name ++ codes ":IN [" ++ values_text [] s.values

-- a text as a part: `*`, a word, a phrase, a range or a set as it is, any other tree in parentheses
abbrev pub text_as_part : Ast → List ℕ → List ℕ
text_as_part everything text = text
text_as_part (leaf l) text = text
text_as_part (ranged r) text = text
text_as_part (in_set s) text = text
text_as_part (all_of ts) text = 40 ∷ text ++ 41 ∷ []
text_as_part (any_of ts) text = 40 ∷ text ++ 41 ∷ []
text_as_part (without first other) text = 40 ∷ text ++ 41 ∷ []

-- The text of a tree; or of trees as parts, with one text before the first and another before each other.
abbrev mutual
  pub spelled : Ast → List ℕ
  spelled everything = codes "*"
  spelled (leaf l) = literal_text l
  spelled (ranged r) = range_text r
  spelled (in_set s) = set_text s
  spelled (all_of ts) = parts_text [] (codes " AND ") ts
  spelled (any_of ts) = parts_text [] (codes " OR ") ts
  spelled (without first other) = text_as_part first (spelled first) ++ codes " AND -" ++ text_as_part other (spelled other)

  pub parts_text : List ℕ → List ℕ → Asts → List ℕ
  parts_text before between no_asts = []
  parts_text before between (and_asts t ts) = before ++ text_as_part t (spelled t) ++ parts_text between between ts

-- the text of a tree as a part
abbrev pub part_text : Ast → List ℕ
part_text t = text_as_part t (spelled t)

-- whether a text can be written between quotes: it does not end with a backslash
abbrev pub is_writable : List ℕ → Bool
is_writable text = not (slice_index text (length text - 1) == 92)

-- whether a text can be written as a word: it is not empty either
abbrev pub is_writable_word : List ℕ → Bool
is_writable_word text = not (is_empty text) && is_writable text

-- whether a word is not an operator
abbrev pub is_no_operator : List ℕ → Bool
is_no_operator text = not (bytes_eq text (codes "AND")) && not (bytes_eq text (codes "OR")) && not (bytes_eq text (codes "NOT"))

-- whether a phrase can be written after the name of a field
abbrev pub is_value : Delimiter → List ℕ → Bool
is_value delimiters.None phrase = is_writable_word phrase
is_value delimiters.DoubleQuotes phrase = is_writable phrase
is_value delimiters.Star phrase = is_writable_word phrase
is_value (delimiters.Slop slop) phrase = is_writable phrase && nat_lt slop 4294967296
is_value delimiters.Prefix phrase = is_writable phrase

-- whether a phrase can be written alone
abbrev pub may_be_alone : Delimiter → List ℕ → Bool
may_be_alone delimiters.None phrase = is_writable_word phrase && is_no_operator phrase
may_be_alone delimiters.DoubleQuotes phrase = is_writable phrase
may_be_alone delimiters.Star phrase = is_writable_word phrase
may_be_alone (delimiters.Slop slop) phrase = is_writable phrase && nat_lt slop 4294967296
may_be_alone delimiters.Prefix phrase = is_writable phrase

-- whether a word or a phrase can be written
abbrev pub is_literal : Option (List ℕ) → Delimiter → List ℕ → Bool
is_literal None delimiter phrase = may_be_alone delimiter phrase
is_literal (Some name) delimiter phrase = is_writable_word name && is_value delimiter phrase

-- whether a bound can be written
abbrev pub is_bound : Bound → Bool
is_bound unbounded = true
is_bound (inclusive text) = is_writable text
is_bound (exclusive text) = is_writable text

-- whether a range can be written
abbrev pub is_range : Range → Bool
is_range r = is_writable_word r.field_name && is_bound r.lower && is_bound r.upper

-- whether a set can be written
abbrev pub may_be_set : ValueSet → Bool
may_be_set s = is_writable_word s.field_name && list_all is_writable s.values && nat_le (length s.values) MAX_SET_VALUES

-- whether there are two trees or more
abbrev pub are_several : Asts → Bool
are_several no_asts = false
are_several (and_asts t no_asts) = false
are_several (and_asts t (and_asts u ts)) = true

-- whether each word, phrase, range and set of a tree can be written, and each list of parts has two or more
abbrev mutual
  pub has_spelling : Ast → Bool
  has_spelling everything = true
  has_spelling (leaf l) = is_literal l.field_name l.delimiter l.phrase
  has_spelling (ranged r) = is_range r
  has_spelling (in_set s) = may_be_set s
  has_spelling (all_of ts) = are_several ts && have_spelling ts
  has_spelling (any_of ts) = are_several ts && have_spelling ts
  has_spelling (without first other) = has_spelling first && has_spelling other

  pub have_spelling : Asts → Bool
  have_spelling no_asts = true
  have_spelling (and_asts t ts) = has_spelling t && have_spelling ts

-- the number of open parentheses when a tree is a part
abbrev pub nesting_as_part : Ast → ℕ → ℕ
nesting_as_part everything n = 0
nesting_as_part (leaf l) n = 0
nesting_as_part (ranged r) n = 0
nesting_as_part (in_set s) n = 0
nesting_as_part (all_of ts) n = suc n
nesting_as_part (any_of ts) n = suc n
nesting_as_part (without first other) n = suc n

-- the maximum number of open parentheses in the text of a tree
abbrev mutual
  pub nesting : Ast → ℕ
  nesting everything = 0
  nesting (leaf l) = 0
  nesting (ranged r) = 0
  nesting (in_set s) = 0
  nesting (all_of ts) = parts_nesting ts
  nesting (any_of ts) = parts_nesting ts
  nesting (without first other) = max (nesting_as_part first (nesting first)) (nesting_as_part other (nesting other))

  pub parts_nesting : Asts → ℕ
  parts_nesting no_asts = 0
  parts_nesting (and_asts t ts) = max (nesting_as_part t (nesting t)) (parts_nesting ts)

-- the same for a tree as a part
abbrev pub part_nesting : Ast → ℕ
part_nesting t = nesting_as_part t (nesting t)

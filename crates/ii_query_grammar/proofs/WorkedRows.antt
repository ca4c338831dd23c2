-- Texts with known trees, as examples of the definitions.
use Rattle.std.proofs.Common.{◌≡◌, ℕ, List, [], ◌∷◌, None, Some, Result, Ok, Err, refl}
use Rattle.std.specs.Prelude.{codes}
use Rattle.std.specs.Fmt.{digits}
use Rattle.ii_query_grammar.specs.declared.parse_error.Expected.{Expected}
use Rattle.ii_query_grammar.specs.declared.parse_error.Expected.TheVariants.{Bound as ABound, Closing, End, Excluded, Included, LessNesting, Operand, Query, Quote, RangeEnd, SetValue, FewerValues, Slop, To, Value}
use Rattle.ii_query_grammar.specs.declared.parse_error.Feature.{Feature}
use Rattle.ii_query_grammar.specs.declared.parse_error.Feature.TheVariants.{Boosts, Comparisons, Fuzzy, Ranges, RegularExpressions, RequiredClauses, Sets, Wildcards}
use Rattle.ii_query_grammar.specs.declared.parse_error.ParseError.{ParseError}
use Rattle.ii_query_grammar.specs.declared.parse_error.ParseError.TheVariants.{Syntax, Unsupported}
use Rattle.ii_query_grammar.specs.declared.user_input_ast.Delimiter.TheVariants as delimiters
use Rattle.ii_query_grammar.specs.Lexemes.{SetFront, set_values, tokens}
use Rattle.ii_query_grammar.specs.Parsed.{parsed}
use Rattle.ii_query_grammar.specs.Spelling.{spelled}
use Rattle.ii_query_grammar.specs.Trees.{Ast, Bound, all_of, any_of, asts_from, everything, exclusive, in_set, inclusive, leaf, ranged, unbounded, without}

abbrev word : List ℕ → Ast
word text = leaf (record { field_name = None; phrase = text; delimiter = delimiters.None })

abbrev in_field : List ℕ → List ℕ → Ast
in_field name text = leaf (record { field_name = Some name; phrase = text; delimiter = delimiters.None })

abbrev phrase : List ℕ → Ast
phrase text = leaf (record { field_name = None; phrase = text; delimiter = delimiters.DoubleQuotes })

abbrev sloppy : ℕ → List ℕ → Ast
sloppy slop text = leaf (record { field_name = None; phrase = text; delimiter = delimiters.Slop slop })

abbrev sloppy_in : List ℕ → ℕ → List ℕ → Ast
sloppy_in name slop text = leaf (record { field_name = Some name; phrase = text; delimiter = delimiters.Slop slop })

abbrev prefix : List ℕ → Ast
prefix text = leaf (record { field_name = None; phrase = text; delimiter = delimiters.Star })

abbrev prefix_in : List ℕ → List ℕ → Ast
prefix_in name text = leaf (record { field_name = Some name; phrase = text; delimiter = delimiters.Star })

abbrev starred : List ℕ → Ast
starred text = leaf (record { field_name = None; phrase = text; delimiter = delimiters.Prefix })

abbrev starred_in : List ℕ → List ℕ → Ast
starred_in name text = leaf (record { field_name = Some name; phrase = text; delimiter = delimiters.Prefix })

abbrev range : List ℕ → Bound → Bound → Ast
range name lower upper = ranged (record { field_name = name; lower = lower; upper = upper })

abbrev among : List ℕ → List (List ℕ) → Ast
among name values = in_set (record { field_name = name; values = values })

abbrev set_front : List (List ℕ) → List ℕ → Result SetFront ParseError
set_front values rest = Ok (record { values = values; rest = rest })

abbrev set_error : Expected → ℕ → Result SetFront ParseError
set_error expected at = Err (Syntax expected at)

abbrev all : List Ast → Ast
all ts = all_of (asts_from ts)

abbrev any : List Ast → Ast
any ts = any_of (asts_from ts)

abbrev a : Ast
a = word (codes "a")

abbrev b : Ast
b = word (codes "b")

abbrev c : Ast
c = word (codes "c")

abbrev tree : Ast → Result Ast ParseError
tree t = Ok t

abbrev syntax_error : Expected → ℕ → Result Ast ParseError
syntax_error expected at = Err (Syntax expected at)

abbrev unsupported : Feature → ℕ → Result Ast ParseError
unsupported feature at = Err (Unsupported feature at)

abbrev phrase_row : parsed 9 (codes "body:\"new york\"") ≡ tree (leaf (record { field_name = Some (codes "body"); phrase = codes "new york"; delimiter = delimiters.DoubleQuotes }))
unfolding tokens
phrase_row = refl

abbrev path_row : parsed 9 (codes "attr.color:red") ≡ tree (in_field (codes "attr.color") (codes "red"))
unfolding tokens
path_row = refl

abbrev signed_row : parsed 9 (codes "price:-7 price:+7") ≡ tree (any (in_field (codes "price") (codes "-7") ∷ in_field (codes "price") (codes "+7") ∷ []))
unfolding tokens
signed_row = refl

abbrev row_row : parsed 0 (codes "a b  c a") ≡ tree (any (a ∷ b ∷ c ∷ a ∷ []))
unfolding tokens
row_row = refl

abbrev chain_row : parsed 0 (codes "a AND b AND -c AND a AND -b") ≡ tree (without (all (a ∷ b ∷ a ∷ [])) (any (c ∷ b ∷ [])))
unfolding tokens
chain_row = refl

abbrev tighter_row : parsed 0 (codes "a OR b AND c") ≡ tree (any (a ∷ all (b ∷ c ∷ []) ∷ []))
unfolding tokens
tighter_row = refl

abbrev excluded_row : parsed 0 (codes " a -b  c -a") ≡ tree (without (any (a ∷ c ∷ [])) (any (b ∷ a ∷ [])))
unfolding tokens
excluded_row = refl

abbrev nested_row : parsed 1 (codes "(a b) AND -c") ≡ tree (without (any (a ∷ b ∷ [])) c)
unfolding tokens
nested_row = refl

abbrev not_row : parsed 0 (codes "NOT b a") ≡ tree (without a b)
unfolding tokens
not_row = refl

abbrev and_not_row : parsed 0 (codes "a AND NOT b") ≡ tree (without a b)
unfolding tokens
and_not_row = refl

abbrev quoted_not_row : parsed 0 (codes "a \"NOT\"") ≡ tree (any (a ∷ phrase (codes "NOT") ∷ []))
unfolding tokens
quoted_not_row = refl

abbrev inner_row : parsed 0 (codes "a-b'/.@#=]}<") ≡ tree (word (codes "a-b'/.@#=]}<"))
unfolding tokens
inner_row = refl

abbrev escaped_row : parsed 0 (codes "\\-new\\ york\\* na\\:me:\\<x") ≡ tree (any (word (codes "-new york*") ∷ in_field (codes "na:me") (codes "<x") ∷ []))
unfolding tokens
escaped_row = refl

abbrev kept_row : parsed 0 (codes "leaf.a\\.b:x\\y\\\\z") ≡ tree (in_field (codes "leaf.a\\.b") (codes "x\\y\\\\z"))
unfolding tokens
kept_row = refl

abbrev quoted_row : parsed 0 (codes "\"se* \\\"a\\\" [x\"") ≡ tree (phrase (codes "se* \"a\" [x"))
unfolding tokens
quoted_row = refl

abbrev prefix_row : parsed 9 (codes "se* AND (a x:se*)") ≡ tree (all (prefix (codes "se") ∷ any (a ∷ prefix_in (codes "x") (codes "se") ∷ []) ∷ []))
unfolding tokens
prefix_row = refl

-- a word that is an operator, and one with a star in it
abbrev odd_prefix_row : parsed 9 (codes "AND* a\\*b*") ≡ tree (any (prefix (codes "AND") ∷ prefix (codes "a*b") ∷ []))
unfolding tokens
odd_prefix_row = refl

-- all values of a field
abbrev any_term_row : parsed 9 (codes "x:*") ≡ tree (range (codes "x") unbounded unbounded)
unfolding tokens
any_term_row = refl

abbrev wildcard_row : parsed 9 (codes "s*a") ≡ unsupported Wildcards 1
unfolding tokens
wildcard_row = refl

abbrev two_stars_row : parsed 9 (codes "se**") ≡ unsupported Wildcards 2
unfolding tokens
two_stars_row = refl

abbrev suffix_row : parsed 9 (codes "x:*a") ≡ unsupported Wildcards 2
unfolding tokens
suffix_row = refl

abbrev starred_name_row : parsed 9 (codes "x*:a") ≡ unsupported Wildcards 1
unfolding tokens
starred_name_row = refl

abbrev question_row : parsed 9 (codes "text:s?a") ≡ unsupported Wildcards 6
unfolding tokens
question_row = refl

abbrev fuzzy_row : parsed 9 (codes "sea~1") ≡ unsupported Fuzzy 3
unfolding tokens
fuzzy_row = refl

abbrev slop_row : parsed 9 (codes "\"a b\"~2 AND (x:\"b\"~0)") ≡ tree (all (sloppy 2 (codes "a b") ∷ sloppy_in (codes "x") 0 (codes "b") ∷ []))
unfolding tokens
slop_row = refl

-- the digits are one word, of which the slop is the number
abbrev slop_digits_row : parsed 9 (codes "\"a\"~004294967295\"b\"~7 ~") ≡ unsupported Fuzzy 22
unfolding tokens
slop_digits_row = refl

abbrev slop_limit_row : parsed 9 (codes "\"a b\"~4294967295") ≡ tree (sloppy 4294967295 (codes "a b"))
unfolding tokens
slop_limit_row = refl

abbrev large_slop_row : parsed 9 (codes "\"a b\"~4294967296") ≡ syntax_error Slop 6
unfolding tokens
large_slop_row = refl

abbrev no_slop_row : parsed 9 (codes "x:\"a b\"~ c") ≡ syntax_error Slop 8
unfolding tokens
no_slop_row = refl

abbrev odd_slop_row : parsed 9 (codes "\"a b\"~2.5") ≡ syntax_error Slop 6
unfolding tokens
odd_slop_row = refl

abbrev signed_slop_row : parsed 9 (codes "\"a b\"~+2") ≡ syntax_error Slop 6
unfolding tokens
signed_slop_row = refl

-- a slop directly after the quotes
abbrev far_slop_row : parsed 9 (codes "\"a b\" ~2") ≡ unsupported Fuzzy 6
unfolding tokens
far_slop_row = refl

abbrev spelled_slop_row : spelled (all (sloppy 2 (codes "a \"b") ∷ sloppy_in (codes "x") 0 [] ∷ [])) ≡ codes "\"a \\\"b\"~2 AND x:\"\"~0"
unfolding digits
spelled_slop_row = refl

abbrev starred_row : parsed 9 (codes "\"old se\"* AND (x:\"se\"*)") ≡ tree (all (starred (codes "old se") ∷ starred_in (codes "x") (codes "se") ∷ []))
unfolding tokens
starred_row = refl

-- a star directly after the quotes
abbrev far_star_row : parsed 9 (codes "\"a b\" *") ≡ tree (any (phrase (codes "a b") ∷ everything ∷ []))
unfolding tokens
far_star_row = refl

abbrev star_in_quotes_row : parsed 9 (codes "\"a b*\"") ≡ tree (phrase (codes "a b*"))
unfolding tokens
star_in_quotes_row = refl

abbrev star_then_word_row : parsed 9 (codes "x:\"a b\"*c") ≡ unsupported Wildcards 7
unfolding tokens
star_then_word_row = refl

abbrev slop_then_star_row : parsed 9 (codes "\"a b\"~2*") ≡ unsupported Wildcards 7
unfolding tokens
slop_then_star_row = refl

abbrev star_then_slop_row : parsed 9 (codes "\"a b\"*~2") ≡ unsupported Wildcards 5
unfolding tokens
star_then_slop_row = refl

abbrev spelled_starred_row : spelled (all (starred (codes "a \"b*") ∷ starred_in (codes "x") [] ∷ [])) ≡ codes "\"a \\\"b*\"* AND x:\"\"*"
spelled_starred_row = refl

abbrev boost_row : parsed 9 (codes "(a b)^2") ≡ unsupported Boosts 5
unfolding tokens
boost_row = refl

abbrev range_row : parsed 9 (codes "num:[1 TO 5]") ≡ tree (range (codes "num") (inclusive (codes "1")) (inclusive (codes "5")))
unfolding tokens
range_row = refl

abbrev excluded_bounds_row : parsed 9 (codes "(num:{ -5 TO \"b ]\" } a)") ≡ tree (any (range (codes "num") (exclusive (codes "-5")) (exclusive (codes "b ]")) ∷ a ∷ []))
unfolding tokens
excluded_bounds_row = refl

abbrev unbounded_row : parsed 9 (codes "n:[* TO TO} AND n:{a\\]*") ≡ syntax_error To 22
unfolding tokens
unbounded_row = refl

abbrev half_row : parsed 9 (codes "n:[* TO TO} AND n:{a\\] TO *}") ≡ tree (all (range (codes "n") unbounded (exclusive (codes "TO")) ∷ range (codes "n") (exclusive (codes "a]")) unbounded ∷ []))
unfolding tokens
half_row = refl

abbrev no_field_row : parsed 9 (codes "a [1 TO 5]") ≡ unsupported Ranges 2
unfolding tokens
no_field_row = refl

abbrev one_bound_row : parsed 9 (codes "year:[1 2]") ≡ syntax_error To 8
unfolding tokens
one_bound_row = refl

abbrev no_bound_row : parsed 9 (codes "year:[1 TO ]") ≡ syntax_error ABound 11
unfolding tokens
no_bound_row = refl

abbrev open_quote_row : parsed 9 (codes "year:[\"1 TO 2]") ≡ syntax_error Quote 14
unfolding tokens
open_quote_row = refl

abbrev no_end_row : parsed 9 (codes "year:[1 TO 2") ≡ syntax_error RangeEnd 12
unfolding tokens
no_end_row = refl

abbrev round_end_row : parsed 9 (codes "(year:[1 TO 2)") ≡ syntax_error RangeEnd 13
unfolding tokens
round_end_row = refl

abbrev open_range_row : parsed 9 (codes "{1 TO 5}") ≡ unsupported Ranges 0
unfolding tokens
open_range_row = refl

abbrev comparison_row : parsed 9 (codes "num:>=5") ≡ tree (range (codes "num") (inclusive (codes "5")) unbounded)
unfolding tokens
comparison_row = refl

abbrev comparisons_row : parsed 9 (codes "(num:>\"5 6\" num:<a] num:<=\"\")") ≡ tree (any (range (codes "num") (exclusive (codes "5 6")) unbounded ∷ range (codes "num") unbounded (exclusive (codes "a]")) ∷ range (codes "num") unbounded (inclusive []) ∷ []))
unfolding tokens
comparisons_row = refl

abbrev compared_row : parsed 9 (codes "num:> 5") ≡ syntax_error ABound 5
unfolding tokens
compared_row = refl

abbrev alone_comparison_row : parsed 9 (codes "<=5") ≡ unsupported Comparisons 0
unfolding tokens
alone_comparison_row = refl

abbrev regular_row : parsed 9 (codes "/se.a/") ≡ unsupported RegularExpressions 0
unfolding tokens
regular_row = refl

abbrev required_row : parsed 9 (codes "a +b") ≡ unsupported RequiredClauses 2
unfolding tokens
required_row = refl

abbrev excluded_alone : parsed 9 (codes "-c") ≡ syntax_error Included 2
unfolding tokens
excluded_alone = refl

abbrev nothing_row : parsed 9 [] ≡ syntax_error Query 0
unfolding tokens
nothing_row = refl

abbrev not_alone_row : parsed 9 (codes "NOT") ≡ syntax_error Excluded 3
unfolding tokens
not_alone_row = refl

abbrev operand_row : parsed 9 (codes "a AND OR b") ≡ syntax_error Operand 6
unfolding tokens
operand_row = refl

abbrev value_row : parsed 9 (codes "a: b") ≡ syntax_error Value 2
unfolding tokens
value_row = refl

abbrev quote_row : parsed 9 (codes "a \"bc\\\"") ≡ syntax_error Quote 7
unfolding tokens
quote_row = refl

abbrev closing_row : parsed 9 (codes "(a (b)") ≡ syntax_error Closing 6
unfolding tokens
closing_row = refl

abbrev end_row : parsed 9 (codes "a )b") ≡ syntax_error End 2
unfolding tokens
end_row = refl

abbrev nesting_row : parsed 2 (codes "(a (b (c)))") ≡ syntax_error LessNesting 6
unfolding tokens
nesting_row = refl

abbrev apart_row : parsed 1 (codes "(a) (b)") ≡ tree (any (a ∷ b ∷ []))
unfolding tokens
apart_row = refl

abbrev spelled_row : spelled (without (any (a ∷ in_field (codes "t") (codes "b") ∷ c ∷ [])) c) ≡ codes "(a OR t:b OR c) AND -c"
spelled_row = refl

abbrev spelled_chain_row : spelled (all (a ∷ any (b ∷ c ∷ []) ∷ [])) ≡ codes "a AND (b OR c)"
spelled_chain_row = refl

abbrev spelled_escapes_row : spelled (any (phrase (codes "new \"york\" a\\*") ∷ in_field (codes "na:me") (codes "-a-b*\\.c") ∷ [])) ≡ codes "\"new \\\"york\\\" a\\\\*\" OR na\\:me:\\-a-b\\*\\.c"
spelled_escapes_row = refl

abbrev spelled_prefix_row : spelled (all (prefix (codes "a*b") ∷ prefix_in (codes "t") (codes "b") ∷ [])) ≡ codes "a\\*b* AND t:b*"
spelled_prefix_row = refl

abbrev spelled_range_row : spelled (any (range (codes "t") (inclusive (codes "a \"b\"")) unbounded ∷ range (codes "u") unbounded (exclusive (codes "c")) ∷ [])) ≡ codes "t:[\"a \\\"b\\\"\" TO *] OR u:[* TO \"c\"}"
spelled_range_row = refl

abbrev everything_row : parsed 9 (codes "*") ≡ tree everything
unfolding tokens
everything_row = refl

abbrev everything_but_row : parsed 9 (codes "* AND NOT se* (*)") ≡ tree (any (without everything (prefix (codes "se")) ∷ everything ∷ []))
unfolding tokens
everything_but_row = refl

abbrev set_row : parsed 9 (codes "tag:IN [a \"b c\" d]") ≡ tree (among (codes "tag") (codes "a" ∷ codes "b c" ∷ codes "d" ∷ []))
unfolding tokens set_values
set_row = refl

abbrev set_spaces_row : parsed 9 (codes "a tag:IN[\tIN  TO\\] ]AND b") ≡ tree (any (a ∷ all (among (codes "tag") (codes "IN" ∷ codes "TO]" ∷ []) ∷ b ∷ []) ∷ []))
unfolding tokens set_values
set_spaces_row = refl

abbrev no_value_row : parsed 9 (codes "tag:IN []") ≡ tree (among (codes "tag") [])
unfolding tokens set_values
no_value_row = refl

abbrev in_word_row : parsed 9 (codes "IN tag:IN (a)") ≡ tree (any (word (codes "IN") ∷ in_field (codes "tag") (codes "IN") ∷ a ∷ []))
unfolding tokens set_values
in_word_row = refl

abbrev open_set_row : parsed 9 (codes "tag:IN [a b") ≡ syntax_error SetValue 11
unfolding tokens set_values
open_set_row = refl

abbrev bad_value_row : parsed 9 (codes "tag:IN [a* b]") ≡ syntax_error SetValue 9
unfolding tokens set_values
bad_value_row = refl

abbrev open_value_row : parsed 9 (codes "tag:IN [\"a]") ≡ syntax_error Quote 11
unfolding tokens set_values
open_value_row = refl

abbrev bare_set_row : parsed 9 (codes "a IN [b]") ≡ unsupported Sets 2
unfolding tokens set_values
bare_set_row = refl

abbrev few_values_row : set_values 2 7 (codes "a b ] c") ≡ set_front (codes "a" ∷ codes "b" ∷ []) (codes " c")
unfolding set_values
few_values_row = refl

abbrev many_values_row : set_values 2 6 (codes "a b c]") ≡ set_error FewerValues 4
unfolding set_values
many_values_row = refl

abbrev spelled_set_row : spelled (all (everything ∷ among (codes "na:me") (codes "a" ∷ codes "b c" ∷ []) ∷ [])) ≡ codes "* AND na\\:me:IN [\"a\" \"b c\"]"
spelled_set_row = refl

abbrev spelled_no_value_row : spelled (among (codes "tag") []) ≡ codes "tag:IN []"
spelled_no_value_row = refl

-- Sets, and all documents, in texts of queries, each computed.
use Rattle.std.specs.Prelude.{◌≡◌, [], ◌∷◌, None, Some, codes, refl}
use Rattle.ii_query_grammar.specs.Lexemes.{set_values, tokens}
use Rattle.ii_query_grammar.specs.declared.parse_error.Expected.TheVariants.{SetValue}
use Rattle.ii_query_grammar.specs.declared.parse_error.Feature.TheVariants.{Sets}
use Rattle.ii_query_parser.specs.declared.query_parser_error.QueryParserError.TheVariants as errors
use Rattle.ii_query_parser.proofs.RangeRows.{docs_of, refusal_of}

abbrev numbers : docs_of (codes "n:IN [7 -5 8]") ≡ 0 ∷ 2 ∷ []
unfolding tokens set_values
numbers = refl

abbrev words : docs_of (codes "body:IN [ sea \"set\" sez]") ≡ 0 ∷ 2 ∷ []
unfolding tokens set_values
words = refl

abbrev no_value : docs_of (codes "n:IN []") ≡ []
unfolding tokens set_values
no_value = refl

abbrev everything : docs_of (codes "*") ≡ 0 ∷ 1 ∷ 2 ∷ 3 ∷ 4 ∷ []
unfolding tokens
everything = refl

abbrev everything_else : docs_of (codes "* AND NOT body:IN [sea sf]") ≡ 1 ∷ 2 ∷ 4 ∷ []
unfolding tokens set_values
everything_else = refl

abbrev no_refusal : refusal_of (codes "n:IN [] *") ≡ None
unfolding tokens set_values
no_refusal = refl

abbrev no_number : refusal_of (codes "n:IN [1 a]") ≡ Some (errors.ExpectedInt 0)
unfolding tokens set_values
no_number = refl

abbrev phrase_value : refusal_of (codes "body:IN [sea \"sea set\"]") ≡ Some (errors.FieldDoesNotHavePositionsIndexed 1)
unfolding tokens set_values
phrase_value = refl

abbrev empty_value : refusal_of (codes "body:IN [\"\"]") ≡ Some errors.NoWords
unfolding tokens set_values
empty_value = refl

abbrev no_field : refusal_of (codes "m:IN []") ≡ Some errors.FieldDoesNotExist
unfolding tokens set_values
no_field = refl

abbrev no_end : refusal_of (codes "n:IN [1 2") ≡ Some (errors.SyntaxError SetValue 9)
unfolding tokens set_values
no_end = refl

abbrev no_name : refusal_of (codes "IN [1 2]") ≡ Some (errors.Unsupported Sets 0)
unfolding tokens set_values
no_name = refl

-- What a text of a query finds.
use Rattle.std.proofs.Common.{inl, ◌≡◌, ◌∙◌, ℕ, List, Result, Ok, Err, Some, refl, sym, ap}
use Rattle.std.specs.Prelude.{◌⊎◌, IfErr, IfOk}
use Rattle.ii_io.specs.declared.faults.Fault.TheVariants.{OutOfMemory}
use Rattle.ii_docset.specs.Intersection.{has_doc}
use Rattle.ii_query.specs.Combined.{QueryCursorState}
use Rattle.ii_definitions.specs.Tokens.{IndexToken}
use Rattle.ii_query_parser.specs.QueryTexts.{AnalyzedFields, MeansTextBy, text_matches_by, text_refusal_by}
use Rattle.ii_query_parser.specs.declared.query.Query.{Query}
use Rattle.ii_query_parser.specs.declared.query_parser_error.QueryParserError.{QueryParserError}
use Rattle.ii_query_parser.specs.declared.query_parser_error.QueryParserError.TheVariants as errors
use Rattle.ii_promises.specs.Texts.{GivesOrTells}
use Rattle.ii_query_grammar.specs.Parsed.{IsReadAs, parsed}
use Rattle.ii_query_grammar.specs.Spelling.{spelled}
use Rattle.ii_query_grammar.specs.Trees.{Ast}
use Rattle.ii_query_grammar.specs.declared.parse_error.ParseError.TheVariants as parse_errors
use Rattle.ii_query_grammar.specs.declared.user_input_ast.UserInputAst.{UserInputAst}
use Rattle.ii_query_grammar.specs.declared.parse_error.ParseError.{ParseError}

pub text_found : {T : Type 0} (q : AnalyzedFields) (text : List ℕ) (query : Query) (ts : List IndexToken) (r : Result (QueryCursorState T) QueryParserError) → MeansTextBy q text query → GivesOrTells query ts r
    → IfOk r (λ cursor. (doc : ℕ) → has_doc cursor.rest doc ≡ text_matches_by q text ts doc)
text_found q text query ts (Ok cursor) means found = λ doc. found.exact doc ∙ means.exact ts doc
text_found q text query ts (Err e) means found = tt

pub text_refused : {T : Type 0} (q : AnalyzedFields) (text : List ℕ) (query : Query) (ts : List IndexToken) (r : Result (QueryCursorState T) QueryParserError) → GivesOrTells query ts r
    → IfErr r (λ e. (e ≡ errors.Fault OutOfMemory) ⊎ (text_refusal_by q text ≡ Some e))
text_refused q text query ts (Ok cursor) found = tt
text_refused q text query ts (Err e) memory = inl memory

-- a text that was spelled
pub spelled_only_memory : (text : List ℕ) (t : Ast) (r : Result UserInputAst ParseError) → IsReadAs r (parsed 128 text) → text ≡ spelled t → parsed 128 (spelled t) ≡ Ok t → IfErr r (λ e. e ≡ parse_errors.OutOfMemory)
spelled_only_memory text t (Ok ast) reads same law = tt
spelled_only_memory text t (Err (parse_errors.Syntax expected at)) reads same law = let wrong = sym reads ∙ ap (parsed 128) same ∙ law in absurd (cc)
spelled_only_memory text t (Err (parse_errors.Unsupported feature at)) reads same law = let wrong = sym reads ∙ ap (parsed 128) same ∙ law in absurd (cc)
spelled_only_memory text t (Err parse_errors.OutOfMemory) reads same law = refl

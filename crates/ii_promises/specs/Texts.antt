-- What a query finds, with the errors of query texts.
use Rattle.std.specs.Prelude.{◌≡◌, List, Result, Ok, Err}
use Rattle.ii_io.specs.declared.faults.Fault.TheVariants.{OutOfMemory}
use Rattle.ii_query.specs.Combined.{QueryCursorState}
use Rattle.ii_definitions.specs.Tokens.{IndexToken}
use Rattle.ii_query_parser.specs.declared.query.Query.{Query}
use Rattle.ii_query_parser.specs.declared.query_parser_error.QueryParserError.{QueryParserError}
use Rattle.ii_query_parser.specs.declared.query_parser_error.QueryParserError.TheVariants as errors
use Rattle.ii_search.specs.Found.{AreMatches}

-- A cursor has exactly the documents that match; only an allocation can fail.
abbrev pub GivesOrTells : {T : Type 0} → Query → List IndexToken → Result (QueryCursorState T) QueryParserError → Type 0
GivesOrTells query ts (Ok cursor) = AreMatches query ts cursor.rest
GivesOrTells query ts (Err e) = e ≡ errors.Fault OutOfMemory

-- Why a text was not taken as a query.
use Rattle.std.specs.Prelude.{ℕ, Option, None, Some}
use Rattle.ii_io.specs.declared.faults.Fault.TheVariants as faults
use Rattle.ii_query_grammar.specs.declared.parse_error.ParseError.{ParseError}
use Rattle.ii_query_grammar.specs.declared.parse_error.ParseError.TheVariants.{OutOfMemory, Syntax, Unsupported}
use Rattle.ii_query_parser.specs.declared.query_parser_error.QueryParserError.{QueryParserError}
use Rattle.ii_query_parser.specs.declared.query_parser_error.QueryParserError.TheVariants as errors

-- the error of a text that is not read
abbrev pub as_parser_error : ParseError → QueryParserError
as_parser_error (Syntax expected at) = errors.SyntaxError expected at
as_parser_error (Unsupported feature at) = errors.Unsupported feature at
as_parser_error OutOfMemory = errors.Fault faults.OutOfMemory

-- the field of a schema that an error concerns, if there is one
abbrev pub field_of_error : QueryParserError → Option ℕ
field_of_error (errors.SyntaxError expected at) = None
field_of_error (errors.Unsupported feature at) = None
field_of_error errors.FieldDoesNotExist = None
field_of_error (errors.FieldNotIndexed field) = Some field
field_of_error errors.NoDefaultFieldDeclared = None
field_of_error errors.NoWords = None
field_of_error (errors.ExpectedInt field) = Some field
field_of_error (errors.ExpectedBool field) = Some field
field_of_error (errors.ExpectedDate field) = Some field
field_of_error (errors.ExpectedBytes field) = Some field
field_of_error (errors.ExpectedIpAddr field) = Some field
field_of_error (errors.UnsupportedPhrase field) = Some field
field_of_error (errors.FieldDoesNotHavePositionsIndexed field) = Some field
field_of_error (errors.UnsupportedPrefix field) = Some field
field_of_error (errors.UnsupportedSlop field) = Some field
field_of_error (errors.UnsupportedBound field) = Some field
field_of_error (errors.UnsupportedPath field) = Some field
field_of_error (errors.Fault fault) = None

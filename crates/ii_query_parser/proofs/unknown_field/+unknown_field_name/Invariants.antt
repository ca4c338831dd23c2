use Rattle.std.proofs.Common.{◌≡◌, drop, map}
use Rattle.ii_query_grammar.specs.Trees.{ast_of, asts_from}
use Rattle.ii_query_parser.specs.QueryTexts.{unknown_among}
use Rattle.ii_query_parser.proofs.unknown_field.+unknown_field_name.Given as goal

abbrev pub invariant-unknown_among-loop-part : goal.invariant-unknown_among-loop-part
invariant-unknown_among-loop-part l = unknown_among l.schema (asts_from (map ast_of l.part-items)) ≡ unknown_among l.schema (asts_from (map ast_of (drop l.part-index l.part-items)))

use Rattle.std.proofs.Common.{rules}
use Rattle.ii_query_parser.proofs.LeftLemmas.{left_out_is}
use Rattle.ii_query_parser.proofs.query_parser.are_left_out.Goals as goal

pub returns : goal.returns
returns c = left_out_is c.args.parts.now.items c.args.queries.now.items c.is_empty.result c.is_empty-2.result (search rules) c.if-is_empty.false (search rules)

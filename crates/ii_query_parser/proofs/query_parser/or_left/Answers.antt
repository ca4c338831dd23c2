use Rattle.ii_query_parser.proofs.LeftLemmas.{none_of_any, some_of_any}
use Rattle.ii_query_parser.proofs.WordsQueryLemmas.{trees_in}
use Rattle.ii_query_parser.proofs.query_parser.or_left.Goals as goal

pub returns-then-are_left_out : goal.returns-then-are_left_out
returns-then-are_left_out c = λ q are. none_of_any q (trees_in c.args.parts.now.items) c.args.queries c.are_left_out.result are c.are_left_out.ensures c.if-are_left_out.true

pub returns : goal.returns
returns c = λ q are. some_of_any q (trees_in c.args.parts.now.items) c.args.queries c.are_left_out.result are c.are_left_out.ensures c.if-are_left_out.false

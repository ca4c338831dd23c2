use Rattle.ii_query_parser.proofs.query_parser.and_not_query.Goals as goal

pub returns-in-Ok-Ok : goal.returns-in-Ok-Ok
returns-in-Ok-Ok c = λ q s t of_first of_other. c.and_not_left.ensures q s t (rw c.in-Ok-Ok.is-0 at of_first) (rw c.in-Ok-Ok.is-1 at of_other)

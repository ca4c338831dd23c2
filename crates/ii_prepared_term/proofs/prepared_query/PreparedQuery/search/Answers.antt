use Rattle.std.proofs.Common.{[]}
use Rattle.ii_prepared_term.proofs.prepared_query.PreparedQuery.search.Goals as goal

pub returns-in-Ok-clause-best : goal.returns-in-Ok-clause-best
returns-in-Ok-clause-best c = c.best_of.ensures.best _ (c.in-Ok.ensures.kept [] c.computer-computer.ensures.none)

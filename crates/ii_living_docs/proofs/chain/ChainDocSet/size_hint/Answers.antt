use Rattle.std.proofs.Common.{drop}
use Rattle.ii_living_docs.proofs.ChainLemmas.{hints_alone, hints_enough}
use Rattle.ii_living_docs.proofs.chain.ChainDocSet.size_hint.Goals as goal

pub returns-clause-hint : goal.returns-clause-hint
returns-clause-hint g c = rw (← c.self.view_is) (hints_alone g.D.DocSet.hints g.D.DocSet.rest (drop c.self.inside.current c.self.inside.cursors.items) c.sum_of_hints.result c.sum_of_hints.ensures)

pub returns-clause-enough : goal.returns-clause-enough
returns-clause-enough g c = rw (← c.self.view_is) (hints_enough g.D.DocSet.hints g.D.DocSet.rest (drop c.self.inside.current c.self.inside.cursors.items) c.sum_of_hints.result c.self.invariant.0 c.sum_of_hints.ensures)

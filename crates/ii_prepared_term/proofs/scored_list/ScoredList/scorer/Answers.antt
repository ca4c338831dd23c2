use Rattle.std.proofs.Common.{arith}
use Rattle.ii_prepared_term.specs.ScoredLists.{entries_of}
use Rattle.ii_prepared_term.proofs.ScoredListLemmas.{entries_end}
use Rattle.ii_prepared_term.proofs.scored_list.ScoredList.scorer.Goals as goal

pub invariant_of-result : goal.invariant_of-result
invariant_of-result c = (c.self.invariant, omega arith)

pub returns-clause-ends : goal.returns-clause-ends
returns-clause-ends c = rw (← c.self.view_is) (entries_end (entries_of c.self.inside.docs.items) c.self.invariant.ascending)

use Rattle.ii_docset.proofs.CursorLemmas.{IsAscending_drop}
use Rattle.ii_prepared_term.specs.ScoredLists.{entries_of}
use Rattle.ii_prepared_term.proofs.scored_list.ListedScorer.go_to.Goals as goal

pub invariant_of-self : goal.invariant_of-self
invariant_of-self c = (c.self.invariant.0, c.first_from-place.ensures.within)

pub returns-clause-rest : goal.returns-clause-rest
returns-clause-rest c = rw (← c.self.view_is) c.first_from-place.ensures.rest

pub returns-clause-ascending : goal.returns-clause-ascending
returns-clause-ascending c = IsAscending_drop c.first_from-place.result (entries_of c.self.inside.docs.now.items) c.self.invariant.0.ascending

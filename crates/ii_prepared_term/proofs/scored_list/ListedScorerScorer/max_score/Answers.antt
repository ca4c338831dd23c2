use Rattle.ii_prepared_term.proofs.ScoredListLemmas.{listed_bounded}
use Rattle.ii_prepared_term.proofs.scored_list.ListedScorerScorer.max_score.Goals as goal

pub returns-clause-bounded : goal.returns-clause-bounded
returns-clause-bounded c = rw (← c.self.view_is) (listed_bounded c.self.inside.docs.now.items c.self.inside.most c.self.inside.place c.self.invariant.0)

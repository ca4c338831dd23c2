-- What documents score by a part of a prepared query that isn't made of others.
use Rattle.ii_scorer.specs.Scorers.{ScorerState}
use Rattle.ii_prepared_term.specs.PreparedScorers.{prepared_state}
use Rattle.ii_prepared_term.specs.ScoredLists.{listed_state}
use Rattle.ii_prepared_term.specs.declared.prepared_leaf.PreparedLeaf.{PreparedLeaf}
use Rattle.ii_prepared_term.specs.declared.prepared_leaf.PreparedLeaf.TheVariants.{Term, Listed}

-- what documents score that weren't passed, by either kind
abbrev pub prepared_leaf_state : PreparedLeaf → ScorerState
prepared_leaf_state (Term s) = prepared_state s
prepared_leaf_state (Listed s) = listed_state s

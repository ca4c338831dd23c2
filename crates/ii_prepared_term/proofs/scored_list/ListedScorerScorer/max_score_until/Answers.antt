use Rattle.ii_ranking.proofs.LeafLemmas.{leaf_within}
use Rattle.ii_prepared_term.specs.ScoredLists.{listed_score}
use Rattle.ii_prepared_term.proofs.scored_list.ListedScorerScorer.max_score_until.Goals as goal

pub returns-clause-within : goal.returns-clause-within
returns-clause-within c = λ doc from below. leaf_within (listed_score c.args.self.now) c.args.self.now.most c.max_score.result doc c.max_score.ensures.most below

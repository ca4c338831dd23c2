use Rattle.std.proofs.Common.{◌*◌, ◌^◌}
use Rattle.ii_ranking.specs.LeafScorers.{score_by_term}
use Rattle.ii_ranking.proofs.LeafLemmas.{leaf_within}
use Rattle.ii_ranking.proofs.term_scorer.TermScorerScorer.max_score_until.Goals as goal

pub returns-clause-within : goal.returns-clause-within
returns-clause-within c = λ doc from below. leaf_within (score_by_term c.args.self.now) (c.args.self.now.by.weight.weight * 2 ^ 16) c.max_score.result doc c.max_score.ensures.most below

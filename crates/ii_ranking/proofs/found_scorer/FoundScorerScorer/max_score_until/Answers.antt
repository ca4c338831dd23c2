use Rattle.ii_bm25.specs.declared.bm25.TheConstants.{SCORE_ONE}
use Rattle.ii_ranking.specs.LeafScorers.{score_by_found}
use Rattle.ii_ranking.proofs.LeafLemmas.{leaf_within}
use Rattle.ii_ranking.proofs.found_scorer.FoundScorerScorer.max_score_until.Goals as goal

pub returns-clause-within : goal.returns-clause-within
returns-clause-within c = λ doc from below. leaf_within (score_by_found c.args.self.now) SCORE_ONE c.max_score.result doc c.max_score.ensures.most below

use Rattle.ii_ranking.proofs.TokenLaws.{scores_are_of_tokens as law}
use Rattle.ii_ranking.proofs.laws.scores_are_of_tokens.Goals as goal

pub returns : goal.returns
returns c = law

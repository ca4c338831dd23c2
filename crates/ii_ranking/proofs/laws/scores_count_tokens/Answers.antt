use Rattle.ii_ranking.proofs.CountLaws.{terms_score_by_counts}
use Rattle.ii_ranking.proofs.MatchLaws.{matches_score, phrases_score_by_starts}
use Rattle.ii_ranking.proofs.PhraseCountLaws.{starts_are_exact}
use Rattle.ii_ranking.proofs.laws.scores_count_tokens.Goals as goal

pub returns-clause-terms : goal.returns-clause-terms
returns-clause-terms c = terms_score_by_counts

pub returns-clause-phrases : goal.returns-clause-phrases
returns-clause-phrases c = phrases_score_by_starts

pub returns-clause-exact : goal.returns-clause-exact
returns-clause-exact c = starts_are_exact

pub returns-clause-matches : goal.returns-clause-matches
returns-clause-matches c = matches_score

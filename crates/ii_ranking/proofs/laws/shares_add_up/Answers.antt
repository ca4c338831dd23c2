use Rattle.ii_ranking.proofs.ShareLemmas.{scored_have_shares, shares_add_up}
use Rattle.ii_ranking.proofs.laws.shares_add_up.Goals as goal

pub returns-clause-sum : goal.returns-clause-sum
returns-clause-sum c = shares_add_up

pub returns-clause-some : goal.returns-clause-some
returns-clause-some c = scored_have_shares

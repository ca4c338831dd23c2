use Rattle.ii_folder_promises.proofs.RankingLaws.{few_best}
use Rattle.ii_folder_promises.proofs.ranking.the_best_come_first.Goals as goal

pub returns-clause-few : goal.returns-clause-few
returns-clause-few c = few_best c.args.limit _ c.search.result (rw c.with_limit-docs.ensures at c.search.ensures.best)

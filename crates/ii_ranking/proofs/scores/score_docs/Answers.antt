use Rattle.ii_ranking.proofs.TokenLaws.{gives_scores}
use Rattle.ii_ranking.proofs.scores.score_docs.Goals as goal

pub returns-clause-holds : goal.returns-clause-holds
returns-clause-holds g c = λ schema held tokens holds within few fields.
    let statistics = g.S.Bm25StatisticsProvider.statistics c.args.statistics.now in
    gives_scores schema held c.args.index.now tokens statistics c.args.query.now holds fields c.args.num_docs c.scores_of.result within few c.scores_of.ensures.scored c.scores_of.ensures.fault

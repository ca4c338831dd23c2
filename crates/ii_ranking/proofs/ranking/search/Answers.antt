use Rattle.std.proofs.Common.{[]}
use Rattle.ii_ranking.proofs.TokenLaws.{gives_best, memory_alone}
use Rattle.ii_ranking.proofs.ranking.search.Goals as goal

pub returns-in-Ok-clause-best : goal.returns-in-Ok-clause-best
returns-in-Ok-clause-best g c = c.best_of.ensures.best _ (c.in-Ok.ensures.kept [] c.computer-computer.ensures.none)

pub returns-in-Ok-clause-holds : goal.returns-in-Ok-clause-holds
returns-in-Ok-clause-holds g c = λ schema held tokens holds within few fields.
    let statistics = g.S.Bm25StatisticsProvider.statistics c.args.statistics.now in
    gives_best schema held c.args.index.now tokens statistics c.args.query.now holds fields c.args.num_docs c.args.docs.now c.best_of.result within (returns-in-Ok-clause-best g c) c.best_of.ensures.only

pub returns-in-Err-clause-holds : goal.returns-in-Err-clause-holds
returns-in-Err-clause-holds g c = λ schema held tokens holds within few fields. memory_alone schema held c.args.index.now tokens c.args.query.now c.in-Err.fault holds few fields c.in-Err.ensures.fault

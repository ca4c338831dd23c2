use Rattle.std.proofs.Common.{◌∙◌, ◌++◌, List, Ok, Err, ap, map}
use Rattle.ii_query_parser.specs.Queries.{tree_of}
use Rattle.ii_ranking.specs.declared.shares.Share.{Share}
use Rattle.ii_ranking.specs.Scores.{scored_in}
use Rattle.ii_ranking.specs.Shares.{share_of, tree_shares}
use Rattle.ii_ranking.proofs.ShareTokenLaws.{gives_shares}
use Rattle.ii_ranking.proofs.shares.explain.Goals as goal

pub returns-in-Ok-clause-holds : goal.returns-in-Ok-clause-holds
returns-in-Ok-clause-holds g c = λ schema held tokens holds below few fields.
    let index = c.args.index.now in
    let st = g.S.Bm25StatisticsProvider.statistics c.args.statistics.now in
    let query = c.args.query.now in
    let given = c.in-Ok.ensures.added ∙ ap (λ (row : List Share). map share_of row ++ tree_shares (scored_in index st) (tree_of query) c.args.doc) c.new-shares.ensures.items in
    gives_shares schema held index tokens st query c.args.doc (Ok c.add_shares.new.shares) holds below few fields given tt

pub returns-clause-holds : goal.returns-clause-holds
returns-clause-holds g c = λ schema held tokens holds below few fields.
    gives_shares schema held c.args.index.now tokens (g.S.Bm25StatisticsProvider.statistics c.args.statistics.now) c.args.query.now c.args.doc (Err c.in-Err.fault) holds below few fields tt c.in-Err.ensures.fault

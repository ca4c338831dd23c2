use Rattle.std.proofs.Common.{◌∙◌, ap, length, rules, sym}
use Rattle.std.proofs.lemmas.List.FromFn.{length-map-range_with_len}
use Rattle.ii_ranking.specs.Scores.{query_score, scored_in}
use Rattle.ii_ranking.specs.Statistics.{statistics_of}
use Rattle.ii_folder_promises.proofs.ShareSumLaws.{none_summed, score_read, total_summed}
use Rattle.ii_folder_promises.proofs.ranking.the_shares_add_up_to_the_score.Goals as goal

pub index-score-requires : goal.index-score-requires
index-score-requires c =
    let f = query_score (scored_in c.args.index.now (statistics_of c.args.statistics.now)) c.args.query.now in
    let many = ap length c.in_ok-scores.ensures.scored ∙ length-map-range_with_len f 0 c.args.num_docs in
    let inside = c.requires.doc in
    search (rules, many, inside)

pub returns-in-Some : goal.returns-in-Some
returns-in-Some c =
    let read = score_read c.args.index.now (statistics_of c.args.statistics.now) c.args.query.now c.args.num_docs c.args.doc c.in_ok-scores.scores.items c.in_ok-shares.shares.items c.index-score.result.now c.shares_add_up.ensures.sum c.requires.doc c.index-score.ensures c.in_ok-scores.ensures.scored c.in_ok-shares.ensures.shares in
    total_summed c.in_ok-shares.shares.items c.in-Some.score (search rules) (sym c.in-Some.is ∙ read)

pub returns-in-None : goal.returns-in-None
returns-in-None c =
    let read = score_read c.args.index.now (statistics_of c.args.statistics.now) c.args.query.now c.args.num_docs c.args.doc c.in_ok-scores.scores.items c.in_ok-shares.shares.items c.index-score.result.now c.shares_add_up.ensures.sum c.requires.doc c.index-score.ensures c.in_ok-scores.ensures.scored c.in_ok-shares.ensures.shares in
    none_summed c.in_ok-shares.shares.items (sym c.in-None.is ∙ read)

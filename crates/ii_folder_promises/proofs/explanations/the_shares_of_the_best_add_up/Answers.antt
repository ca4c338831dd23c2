use Rattle.std.proofs.Common.{map, rules, sym}
use Rattle.ii_ranking.specs.Segments.{segment_of, segments_scored}
use Rattle.ii_ranking.specs.Statistics.{statistics_of}
use Rattle.ii_folder_promises.proofs.ShareSumLaws.{best_has_score, total_cut}
use Rattle.ii_folder_promises.proofs.explanations.the_shares_of_the_best_add_up.Goals as goal

pub returns : goal.returns
returns c =
    let scored = segments_scored (statistics_of c.args.statistics.now) c.args.query.now 0 (map segment_of c.args.segments.now) in
    let one = c.index.result.now in
    let has = best_has_score c.with_limit-docs.result scored c.in_ok-best.best.items c.args.place one c.in_ok-best.ensures.best (search rules) (search rules) in
    total_cut c.in_ok-shares.shares.items one.0 (sym (c.in_ok-shares.ensures.sum one.0 has))

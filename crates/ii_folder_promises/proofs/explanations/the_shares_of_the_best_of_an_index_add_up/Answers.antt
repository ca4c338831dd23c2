use Rattle.std.proofs.Common.{rules, sym}
use Rattle.ii_index.specs.Statistics.{index_statistics}
use Rattle.ii_ranking.specs.Segments.{segments_scored}
use Rattle.ii_folder_promises.proofs.ShareSumLaws.{best_has_score, total_cut}
use Rattle.ii_folder_promises.proofs.explanations.the_shares_of_the_best_of_an_index_add_up.Goals as goal

pub returns : goal.returns
returns c =
    let s = c.args.searcher.now in
    let scored = segments_scored (index_statistics s) c.args.query.now 0 s.segments in
    let one = c.index.result.now in
    let has = best_has_score c.with_limit-docs.result scored c.in_ok-best.best.items c.args.place one c.in_ok-best.ensures.best (search rules) (search rules) in
    total_cut c.in_ok-shares.shares.items one.0 (sym (c.in_ok-shares.ensures.sum one.0 has))

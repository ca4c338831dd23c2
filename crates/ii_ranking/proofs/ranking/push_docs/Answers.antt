use Rattle.std.proofs.Common.{◌∙◌, ◌++◌, ℕ, List, ap, length, rules, subst}
use Rattle.std.proofs.lemmas.List.FromFn.{length-map-range_with_len}
use Rattle.ii_scorer.specs.TopNComputer.{KeepsBest}
use Rattle.ii_scorer.proofs.TopLemmas.{scored_rows}
use Rattle.ii_ranking.specs.Scores.{query_score, scored_in}
use Rattle.ii_ranking.proofs.ranking.push_docs.Goals as goal

pub push_scores-requires : goal.push_scores-requires
push_scores-requires g c =
    let f = query_score (scored_in c.args.index.now (g.S.Bm25StatisticsProvider.statistics c.args.statistics.now)) c.args.query.now in
    let many = ap length c.in_ok-scores.ensures.scored ∙ length-map-range_with_len f 0 c.args.num_docs in
    search (rules, many)

pub returns-clause-kept : goal.returns-clause-kept
returns-clause-kept g c = λ scored h.
    let f = query_score (scored_in c.args.index.now (g.S.Bm25StatisticsProvider.statistics c.args.statistics.now)) c.args.query.now in
    subst (λ (row : List (ℕ × ℕ)). KeepsBest (scored ++ row) c.push_scores.new.computer) (scored_rows c.args.num_docs f c.in_ok-scores.scores.items c.in_ok-scores.ensures.scored) (c.in_ok-push_scores.ensures.kept scored h)

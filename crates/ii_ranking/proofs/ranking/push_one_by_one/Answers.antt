use Rattle.std.proofs.Common.{◌++◌, ℕ, List, arith, subst}
use Rattle.ii_scorer.specs.Scorers.{score_of}
use Rattle.ii_scorer.specs.TopNComputer.{KeepsBest}
use Rattle.ii_scorer.proofs.TopLemmas.{scored_alike}
use Rattle.ii_ranking.specs.Scores.{query_score, scored_in}
use Rattle.ii_ranking.proofs.ranking.push_one_by_one.Goals as goal

pub push_best-requires : goal.push_best-requires
push_best-requires g c =
    let few = c.ranges.num_docs.fits in
    record { ascend = λ doc later up inside. up; fit = λ doc inside. omega (arith, inside, few) }

pub returns-clause-kept : goal.returns-clause-kept
returns-clause-kept g c = λ scored h.
    subst (λ (row : List (ℕ × ℕ)). KeepsBest (scored ++ row) c.push_best.new.computer)
    (scored_alike (λ (doc : ℕ). doc) c.args.num_docs (score_of c.in_ok-scorer.scorer) (query_score (scored_in c.args.index.now (g.S.Bm25StatisticsProvider.statistics c.args.statistics.now)) c.args.query.now) (λ doc below. c.in_ok-scorer.ensures.scores doc))
    (c.in_ok-push_best.ensures.kept scored h)

use Rattle.std.proofs.Common.{ℕ, IfOk, List, subst}
use Rattle.ii_scorer.specs.TopDocs.{AreBest, scored_docs}
use Rattle.ii_scorer.proofs.TopLemmas.{scored_alike}
use Rattle.ii_ranking.specs.Scores.{query_score, scored_in}
use Rattle.ii_ranking.specs.Statistics.{statistics_of}
use Rattle.ii_prepared_term.specs.PreparedQueries.{prepared_query_score}
use Rattle.ii_folder_promises.proofs.RankingLaws.{best_in_order, few_best, given_best, gives_greatest, gives_scored, ties_in_order}
use Rattle.ii_folder_promises.proofs.ranking.the_best_of_a_prepared_query_come_first.Goals as goal

pub returns-clause-few : goal.returns-clause-few
returns-clause-few c = few_best c.args.limit _ c.search.result (rw c.with_limit-docs.ensures at c.search.ensures.best)

pub returns-clause-order : goal.returns-clause-order
returns-clause-order c = best_in_order c.args.limit _ c.search.result (rw c.with_limit-docs.ensures at c.search.ensures.best)

pub returns-clause-ties : goal.returns-clause-ties
returns-clause-ties c = ties_in_order c.args.limit _ c.search.result (rw c.with_limit-docs.ensures at c.search.ensures.best)

pub returns-clause-scores : goal.returns-clause-scores
returns-clause-scores c =
    let f = query_score (scored_in c.args.index.now (statistics_of c.args.statistics.now)) c.args.query.now in
    let g = prepared_query_score c.in_ok-prepared.prepared in
    gives_scored c.args.limit c.args.num_docs f c.search.result
    (given_best c.args.limit (scored_docs c.args.num_docs f) c.search.result
    (subst (λ (row : List (ℕ × ℕ)). IfOk c.search.result (λ best. AreBest (record { limit = c.args.limit; offset = 0 }) row best.items)) (scored_alike (λ (doc : ℕ). doc) c.args.num_docs g f (λ doc below. c.in_ok-prepared.ensures.scores doc))
    (rw c.with_limit-docs.ensures at c.search.ensures.best)) c.search.ensures.only)

pub returns-clause-greatest : goal.returns-clause-greatest
returns-clause-greatest c =
    let f = query_score (scored_in c.args.index.now (statistics_of c.args.statistics.now)) c.args.query.now in
    let g = prepared_query_score c.in_ok-prepared.prepared in
    gives_greatest c.args.limit c.args.num_docs f c.search.result
    (given_best c.args.limit (scored_docs c.args.num_docs f) c.search.result
    (subst (λ (row : List (ℕ × ℕ)). IfOk c.search.result (λ best. AreBest (record { limit = c.args.limit; offset = 0 }) row best.items)) (scored_alike (λ (doc : ℕ). doc) c.args.num_docs g f (λ doc below. c.in_ok-prepared.ensures.scores doc))
    (rw c.with_limit-docs.ensures at c.search.ensures.best)) c.search.ensures.only)

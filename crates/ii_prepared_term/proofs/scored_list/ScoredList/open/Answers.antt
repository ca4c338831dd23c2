use Rattle.std.proofs.Common.{◌∙◌, ap, arith, rules}
use Rattle.ii_ranking.specs.Scores.{query_score, scored_in}
use Rattle.ii_prepared_term.specs.QueryBounds.{greatest_listed}
use Rattle.ii_prepared_term.specs.ScoredLists.{entries_of}
use Rattle.ii_prepared_term.proofs.BoundLemmas.{greatest_up}
use Rattle.ii_prepared_term.proofs.ScoredListLemmas.{entries_end, listed_is, listed_up}
use Rattle.ii_prepared_term.proofs.scored_list.ScoredList.open.Goals as goal

pub invariant_of-result : goal.invariant_of-result
invariant_of-result g c = record {
  ascending = listed_up c.in_ok-docs.docs.items (query_score (scored_in c.args.index.now (g.S.Bm25StatisticsProvider.statistics c.args.statistics.now)) c.args.query.now) c.in_ok-docs.ensures.listed;
  up_to = λ k inside. let most = c.greatest_of-most.ensures in let up = greatest_up c.in_ok-docs.docs.items k inside in omega (arith, most, up);
  fits = search rules;
}

pub returns-clause-scores : goal.returns-clause-scores
returns-clause-scores g c = listed_is c.in_ok-docs.docs.items (query_score (scored_in c.args.index.now (g.S.Bm25StatisticsProvider.statistics c.args.statistics.now)) c.args.query.now) c.in_ok-docs.ensures.listed c.in_ok-docs.ensures.ends

pub returns-clause-most : goal.returns-clause-most
returns-clause-most g c = c.greatest_of-most.ensures ∙ ap greatest_listed c.in_ok-docs.ensures.listed

pub returns-clause-ends : goal.returns-clause-ends
returns-clause-ends g c = entries_end (entries_of c.in_ok-docs.docs.items) (listed_up c.in_ok-docs.docs.items (query_score (scored_in c.args.index.now (g.S.Bm25StatisticsProvider.statistics c.args.statistics.now)) c.args.query.now) c.in_ok-docs.ensures.listed)

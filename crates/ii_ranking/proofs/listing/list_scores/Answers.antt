use Rattle.std.proofs.Common.{◌∙◌}
use Rattle.ii_base.specs.declared.doc_id.TheConstants.{TERMINATED}
use Rattle.ii_ranking.specs.Scores.{query_score, scored_in}
use Rattle.ii_scorer.specs.Scorers.{score_of}
use Rattle.ii_ranking.proofs.ListingLemmas.{listed_alike}
use Rattle.ii_ranking.proofs.listing.list_scores.Goals as goal

pub returns-clause-listed : goal.returns-clause-listed
returns-clause-listed g c =
    c.in_ok-listed.ensures.listed
    ∙ listed_alike TERMINATED (score_of c.in_ok-scorer.scorer) (query_score (scored_in c.args.index.now (g.S.Bm25StatisticsProvider.statistics c.args.statistics.now)) c.args.query.now) (λ doc below. c.in_ok-scorer.ensures.scores doc)

use Rattle.std.proofs.Common.{map}
use Rattle.ii_query_parser.specs.Queries.{matches}
use Rattle.ii_segments.specs.Segments.{index_tokens, num_docs_of}
use Rattle.ii_ranking.specs.Segments.{segment_of}
use Rattle.ii_ranking.specs.Statistics.{statistics_of}
use Rattle.ii_ranking.specs.TokenScores.{token_score, tokens_scored}
use Rattle.ii_ranking.proofs.MatchLaws.{matches_score}
use Rattle.ii_folder_promises.proofs.RankingLaws.{gives_greatest, gives_many, gives_scored}
use Rattle.ii_folder_promises.proofs.SegmentRankingLaws.{all_ordered, best_of_all, memory_of_best}
use Rattle.ii_folder_promises.proofs.ranking.segments_are_ranked_as_one_index.Goals as goal

pub returns-clause-scores : goal.returns-clause-scores
returns-clause-scores c = λ schema ss hold ask reaches.
    let st = statistics_of c.args.statistics.now in
    gives_scored c.args.limit (num_docs_of ss) (token_score schema (index_tokens ss) st c.args.query.now) c.search_segments.result
    (rw c.with_limit-docs.ensures at (best_of_all schema c.segments_score_as_one.ensures.same st c.args.query.now _ (map segment_of c.args.segments.now) ss _ hold ask reaches (c.search_segments.ensures.holds schema ss hold ask.fields)))

pub returns-clause-many : goal.returns-clause-many
returns-clause-many c = λ schema ss hold ask reaches.
    let st = statistics_of c.args.statistics.now in
    gives_many c.args.limit (num_docs_of ss) (token_score schema (index_tokens ss) st c.args.query.now) (matches c.args.query.now (index_tokens ss)) c.search_segments.result
    (rw c.with_limit-docs.ensures at (best_of_all schema c.segments_score_as_one.ensures.same st c.args.query.now _ (map segment_of c.args.segments.now) ss _ hold ask reaches (c.search_segments.ensures.holds schema ss hold ask.fields)))
    (λ doc. matches_score schema (index_tokens ss) st c.args.query.now doc (all_ordered schema (map segment_of c.args.segments.now) ss hold) ask.positions)

pub returns-clause-greatest : goal.returns-clause-greatest
returns-clause-greatest c = λ schema ss hold ask reaches.
    let st = statistics_of c.args.statistics.now in
    gives_greatest c.args.limit (num_docs_of ss) (token_score schema (index_tokens ss) st c.args.query.now) c.search_segments.result
    (rw c.with_limit-docs.ensures at (best_of_all schema c.segments_score_as_one.ensures.same st c.args.query.now _ (map segment_of c.args.segments.now) ss _ hold ask reaches (c.search_segments.ensures.holds schema ss hold ask.fields)))

pub returns-clause-fault : goal.returns-clause-fault
returns-clause-fault c = λ schema ss hold ask.
    memory_of_best _ (tokens_scored schema (statistics_of c.args.statistics.now) c.args.query.now 0 ss) c.search_segments.result (c.search_segments.ensures.holds schema ss hold ask.fields)

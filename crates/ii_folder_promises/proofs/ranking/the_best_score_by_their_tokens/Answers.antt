use Rattle.std.proofs.Common.{arith, map}
use Rattle.ii_definitions.specs.IndexCalls.{call_of}
use Rattle.ii_definitions.specs.Tokens.{tokens_of}
use Rattle.ii_query_parser.specs.Queries.{matches}
use Rattle.ii_ranking.specs.Statistics.{statistics_of}
use Rattle.ii_ranking.specs.TokenScores.{token_score}
use Rattle.ii_ranking.proofs.MatchLaws.{matches_score}
use Rattle.ii_folder_promises.proofs.RankingLaws.{gives_greatest, gives_many, gives_scored, refused_best}
use Rattle.ii_folder_promises.proofs.TokenOrderLaws.{tokens_ordered}
use Rattle.ii_folder_promises.proofs.ranking.the_best_score_by_their_tokens.Goals as goal

pub returns-in-Ok-clause-scores : goal.returns-in-Ok-clause-scores
returns-in-Ok-clause-scores g c =
    let ts = tokens_of (g.A.TextAnalyzer.words c.args.analyzer.now) (map (call_of c.args.schema) c.args.calls.items) in
    let few = c.requires.docs in
    gives_scored c.args.limit c.args.num_docs (token_score c.args.schema ts (statistics_of c.args.statistics.now) c.args.query.now) c.search.result
    (rw c.with_limit-docs.ensures at (c.search.ensures.holds c.args.schema c.args.num_docs ts c.in-Ok.ensures.holds (omega arith) (omega (arith, few)) c.requires.fields))

pub returns-in-Ok-clause-many : goal.returns-in-Ok-clause-many
returns-in-Ok-clause-many g c =
    let words = g.A.TextAnalyzer.words c.args.analyzer.now in
    let ts = tokens_of words (map (call_of c.args.schema) c.args.calls.items) in
    let few = c.requires.docs in
    gives_many c.args.limit c.args.num_docs (token_score c.args.schema ts (statistics_of c.args.statistics.now) c.args.query.now) (matches c.args.query.now ts) c.search.result
    (rw c.with_limit-docs.ensures at (c.search.ensures.holds c.args.schema c.args.num_docs ts c.in-Ok.ensures.holds (omega arith) (omega (arith, few)) c.requires.fields))
    (λ doc. matches_score c.args.schema ts (statistics_of c.args.statistics.now) c.args.query.now doc (tokens_ordered c.args.schema words c.args.calls.items c.requires.calls.ordered) c.requires.positions)

pub returns-in-Ok-clause-greatest : goal.returns-in-Ok-clause-greatest
returns-in-Ok-clause-greatest g c =
    let ts = tokens_of (g.A.TextAnalyzer.words c.args.analyzer.now) (map (call_of c.args.schema) c.args.calls.items) in
    let few = c.requires.docs in
    gives_greatest c.args.limit c.args.num_docs (token_score c.args.schema ts (statistics_of c.args.statistics.now) c.args.query.now) c.search.result
    (rw c.with_limit-docs.ensures at (c.search.ensures.holds c.args.schema c.args.num_docs ts c.in-Ok.ensures.holds (omega arith) (omega (arith, few)) c.requires.fields))

pub returns-in-Ok-clause-fault : goal.returns-in-Ok-clause-fault
returns-in-Ok-clause-fault g c = λ none.
    let ts = tokens_of (g.A.TextAnalyzer.words c.args.analyzer.now) (map (call_of c.args.schema) c.args.calls.items) in
    let few = c.requires.docs in
    refused_best c.args.limit c.args.num_docs (token_score c.args.schema ts (statistics_of c.args.statistics.now) c.args.query.now) c.args.schema c.args.num_docs ts c.search.result
    (rw c.with_limit-docs.ensures at (c.search.ensures.holds c.args.schema c.args.num_docs ts c.in-Ok.ensures.holds (omega arith) (omega (arith, few)) c.requires.fields))

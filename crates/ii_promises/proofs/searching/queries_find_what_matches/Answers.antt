use Rattle.std.proofs.Common.{map}
use Rattle.ii_definitions.specs.Tokens.{tokens_of}
use Rattle.ii_definitions.specs.IndexCalls.{call_of}
use Rattle.ii_promises.proofs.SearchingLaws.{matches_are_found, refused_search}
use Rattle.ii_promises.proofs.searching.queries_find_what_matches.Goals as goal

pub returns-in-Ok-clause-found : goal.returns-in-Ok-clause-found
returns-in-Ok-clause-found g c =
    let ts = tokens_of (g.A.TextAnalyzer.words c.args.analyzer.now) (map (call_of c.args.schema) c.args.calls.items) in
    matches_are_found c.args.query.now ts c.search.result (c.search.ensures.holds c.args.schema c.args.num_docs ts c.in-Ok.ensures.holds c.requires.fields c.requires.positions)

pub returns-in-Ok-clause-fault : goal.returns-in-Ok-clause-fault
returns-in-Ok-clause-fault g c = λ none.
    let ts = tokens_of (g.A.TextAnalyzer.words c.args.analyzer.now) (map (call_of c.args.schema) c.args.calls.items) in
    refused_search c.args.query.now c.args.schema c.args.num_docs ts c.search.result (c.search.ensures.holds c.args.schema c.args.num_docs ts c.in-Ok.ensures.holds c.requires.fields c.requires.positions)

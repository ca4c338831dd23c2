use Rattle.std.proofs.Common.{arith, map}
use Rattle.ii_definitions.specs.Tokens.{tokens_of}
use Rattle.ii_definitions.specs.IndexCalls.{call_of}
use Rattle.ii_promises.proofs.IndexingLaws.{norm_is}
use Rattle.ii_promises.proofs.indexing.norms_count_the_tokens.Goals as goal

pub returns-in-Some-clause-norm : goal.returns-in-Some-clause-norm
returns-in-Some-clause-norm g c =
    let ts = tokens_of (g.A.TextAnalyzer.words c.args.analyzer.now) (map (call_of c.args.schema) c.args.calls.items) in
    let gives = c.in_ok-norms.ensures.holds c.args.schema c.args.num_docs ts (omega (arith, c.requires.docs)) c.in_ok-index.ensures.holds.norms in
    norm_is c.args.schema c.args.num_docs c.args.field c.args.doc c.fieldnorm_id.result ts c.in_ok-norms.field-0 c.in-Some.norms c.requires.doc c.in-Some.is gives c.fieldnorm_id.ensures

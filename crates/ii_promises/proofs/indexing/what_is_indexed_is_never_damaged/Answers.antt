use Rattle.std.proofs.Common.{map}
use Rattle.ii_definitions.specs.Tokens.{tokens_of}
use Rattle.ii_definitions.specs.IndexCalls.{call_of}
use Rattle.ii_promises.proofs.IndexingLaws.{refused_alone}
use Rattle.ii_promises.proofs.indexing.what_is_indexed_is_never_damaged.Goals as goal

pub returns : goal.returns
returns g c =
    let ts = tokens_of (g.A.TextAnalyzer.words c.args.analyzer.now) (map (call_of c.args.schema) c.args.calls.items) in
    refused_alone c.args.schema c.args.num_docs c.in_ok-index.index ts c.args.term.now.field c.args.term.now.value c.args.requested c.reader.result.now c.read_postings.result c.requires.field c.in_ok-index.ensures.holds (rw c.field.ensures at c.reader.ensures)
    c.read_postings.ensures.holds

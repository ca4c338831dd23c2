use Rattle.std.proofs.Common.{map}
use Rattle.ii_definitions.specs.Tokens.{tokens_of}
use Rattle.ii_definitions.specs.IndexCalls.{call_of}
use Rattle.ii_promises.proofs.IndexingLaws.{found_is, refused_alone, refused_is}
use Rattle.ii_promises.proofs.indexing.what_is_indexed_is_found.Goals as goal

pub returns-clause-found : goal.returns-clause-found
returns-clause-found g c =
    let ts = tokens_of (g.A.TextAnalyzer.words c.args.analyzer.now) (map (call_of c.args.schema) c.args.calls.items) in
    found_is c.args.schema c.args.num_docs c.in_ok-index.index ts c.args.term.now.field c.args.term.now.value c.args.requested c.reader.result.now c.read_postings.result c.requires.field c.in_ok-index.ensures.holds (rw c.field.ensures at c.reader.ensures)
    c.read_postings.ensures.holds

pub returns-clause-fault : goal.returns-clause-fault
returns-clause-fault g c = λ none.
    let ts = tokens_of (g.A.TextAnalyzer.words c.args.analyzer.now) (map (call_of c.args.schema) c.args.calls.items) in
    refused_is c.args.schema c.args.num_docs ts c.read_postings.result
    (refused_alone c.args.schema c.args.num_docs c.in_ok-index.index ts c.args.term.now.field c.args.term.now.value c.args.requested c.reader.result.now c.read_postings.result c.requires.field c.in_ok-index.ensures.holds (rw c.field.ensures at c.reader.ensures)
    c.read_postings.ensures.holds)

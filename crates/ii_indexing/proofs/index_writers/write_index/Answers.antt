use Rattle.std.proofs.Common.{map}
use Rattle.ii_definitions.specs.Fields.{option_of}
use Rattle.ii_definitions.specs.Tokens.{pieces_of, tokens_of}
use Rattle.ii_definitions.specs.IndexCalls.{call_of}
use Rattle.ii_indexing.proofs.FaultLaws.{written_fault}
use Rattle.ii_indexing.proofs.RefusalLaws.{none_written}
use Rattle.ii_indexing.proofs.index_writers.write_index.Goals as goal

pub returns-in-Err-clause-failures : goal.returns-in-Err-clause-failures
returns-in-Err-clause-failures g c =
    none_written (g.A.TextAnalyzer.words c.args.analyzer.now) (option_of c.args.schema) (map (call_of c.args.schema) c.args.calls.items) c.args.writers c.in-Err.fault c.in-Err.ensures.refused

pub returns-in-Ok-clause-fault : goal.returns-in-Ok-clause-fault
returns-in-Ok-clause-fault g c none =
    let words = g.A.TextAnalyzer.words c.args.analyzer.now in
    let calls = map (call_of c.args.schema) c.args.calls.items in
    let rest = c.in-Ok.ensures.rest in
    written_fault c.args.schema c.args.num_docs c.args.writers c.in-Ok.indexer (tokens_of words calls) c.finish.result.1 rest.0 rest.1 (c.finish.ensures.fault rest.2 (pieces_of words calls) c.in-Ok.ensures.stored)

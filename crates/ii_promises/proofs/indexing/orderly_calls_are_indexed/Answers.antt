use Rattle.std.proofs.Common.{arith, map}
use Rattle.ii_definitions.specs.Fields.{option_of}
use Rattle.ii_definitions.specs.IndexCalls.{call_of}
use Rattle.ii_definitions.specs.Tokens.{tokens_of}
use Rattle.ii_promises.proofs.OrderlyLaws.{orderly_calls_are_taken}
use Rattle.ii_promises.proofs.FewLaws.{memory_of_few}
use Rattle.ii_promises.proofs.indexing.orderly_calls_are_indexed.Goals as goal

pub returns-clause-memory : goal.returns-clause-memory
returns-clause-memory g c =
    let analyze = g.A.TextAnalyzer.words c.args.analyzer.now in
    let calls = map (call_of c.args.schema) c.args.calls.items in
    let taken = orderly_calls_are_taken analyze (option_of c.args.schema) calls c.requires.orderly (omega (arith, c.requires.positions)) (omega (arith, c.requires.tokens)) in
    memory_of_few c.args.schema (tokens_of analyze calls) c.args.num_docs c.index_in_ram.result c.requires.fields (record { many = c.requires.tokens; keys = taken.1 }) c.requires.docs (c.index_in_ram.ensures.fault taken.0)

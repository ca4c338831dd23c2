use Rattle.ii_indexing.proofs.CallsLaws.{IsTaking}
use Rattle.ii_indexing.proofs.index_writers.index_calls.Given as goal

abbrev pub invariant-loop-call : goal.invariant-loop-call
invariant-loop-call g l = IsTaking (g.A.TextAnalyzer.words l.analyzer) l.fn.schema l.fn.num_docs l.fn.calls.items l.yielded l.call-iterator.rest.items l.indexer

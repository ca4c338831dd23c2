use Rattle.std.proofs.Common.{map}
use Rattle.ii_definitions.specs.IndexCalls.{call_of}
use Rattle.nequllpa_indexing.specs.Counted.{HasCounts}
use Rattle.nequllpa_indexing.specs.FieldTokens.{tokens_by}
use Rattle.nequllpa_indexing.proofs.FieldLaws.{IsTakingBy}
use Rattle.nequllpa_indexing.proofs.counting.index_counted.Given as goal

-- the calls so far were taken, and their tokens counted
abbrev pub invariant-loop-call : goal.invariant-loop-call
invariant-loop-call g l = record {
  taking : IsTakingBy (g.F.FieldAnalyzers.words l.analyzers) l.fn.schema l.fn.num_docs l.fn.calls.items l.yielded l.call-iterator.rest.items l.indexer;
  counts : HasCounts l.fn.schema (tokens_by (g.F.FieldAnalyzers.words l.analyzers) (map (call_of l.fn.schema) l.yielded)) l.counts;
}

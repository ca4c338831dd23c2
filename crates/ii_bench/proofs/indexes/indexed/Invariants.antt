use Rattle.std.proofs.Common.{◌≡◌, ◌≤◌, false}
use Rattle.ii_base.specs.declared.schema.value_type.ValueType.TheVariants.{Str}
use Rattle.ii_definitions.specs.IndexCalls.{Takes}
use Rattle.ii_bench.specs.declared.indexes.TheConstants.{DOCS}
use Rattle.ii_bench.proofs.indexes.indexed.Given as goal

abbrev pub invariant-loop-text : goal.invariant-loop-text
invariant-loop-text l = record {
  takes : Takes l.indexer.schema 0 Str;
  many : l.indexer.num_docs ≡ DOCS;
  order : l.indexer.last_doc ≤ l.doc;
  going : l.indexer.failed ≡ false;
}

use Rattle.std.proofs.Common.{◌≡◌, ◌≤◌, false}
use Rattle.ii_base.specs.declared.schema.value_type.ValueType.TheVariants.{Json}
use Rattle.ii_definitions.specs.IndexCalls.{Takes}
use Rattle.ii_bench.specs.declared.json_values.TheConstants.{DOCS}
use Rattle.ii_bench.proofs.json_values.indexed.Given as goal

abbrev pub invariant-loop-doc : goal.invariant-loop-doc
invariant-loop-doc l = record {
  takes : Takes l.indexer.schema 0 Json;
  many : l.indexer.num_docs ≡ DOCS;
  order : l.indexer.last_doc ≤ l.doc;
  going : l.indexer.failed ≡ false;
}

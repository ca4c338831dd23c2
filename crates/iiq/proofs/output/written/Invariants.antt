use Rattle.std.proofs.Common.{◌≡◌, None, take, false}
use Rattle.ii_base.specs.declared.schema.index_record_option.IndexRecordOption.TheVariants.{Basic}
use Rattle.iiq.proofs.output.written.Given as goal

abbrev pub invariant-loop-doc : goal.invariant-loop-doc
invariant-loop-doc l = record {
  docs_are : l.serializer.docs ≡ take l.doc-index l.docs;
  shape : l.serializer.skip_info ≡ Basic;
  plain : l.serializer.norms ≡ None;
  going : l.serializer.closed ≡ false;
}

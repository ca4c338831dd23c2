use Rattle.ii_io.proofs.WriteSteps.{writes_both}
use Rattle.ii_doc_store.specs.StoreFormat.{footer_bytes}
use Rattle.ii_doc_store.proofs.writer.write_index.Goals as goal

pub returns : goal.returns
returns g c = writes_both _ _ _ c.args.index.now (footer_bytes c.args.index.now) c.write_all-written.result c.write_footer.result c.if-is_err.ensures.value c.write_all-written.ensures.written c.write_footer.ensures

use Rattle.ii_io.proofs.WriteSteps.{on_ok_went}
use Rattle.ii_doc_store.proofs.StoredLaws.{ends_then}
use Rattle.ii_doc_store.proofs.writer.end_store.Goals as goal

pub returns : goal.returns
returns g c =
    let index = on_ok_went c.end_last_block-ended.result c.if-is_err.ensures.value c.end_last_block-ended.ensures.index in
    let written = rw (c.deref.ensures.value, index) at c.write_index.ensures in
    ends_then c.end_last_block-ended.result c.write_index.result _ _ _ _ _ c.if-is_err.ensures.value c.end_last_block-ended.ensures.written written

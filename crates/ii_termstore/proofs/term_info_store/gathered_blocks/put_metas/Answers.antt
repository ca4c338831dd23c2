use Rattle.ii_io.proofs.WriteSteps.{writes_refused_by, writes_then, writes_went}
use Rattle.ii_termstore.proofs.term_info_store.gathered_blocks.put_metas.Goals as goal

pub returns : goal.returns
returns g c =
    let put = rw c.deref.ensures.value at c.write_all-put.ensures.written in
    let bits = rw c.deref-2.ensures.value at c.put_open_meta.ensures in
    writes_then _ _ _ _ _ c.put_open_meta.result (writes_went _ _ _ c.write_all-put.result c.if-is_err.ensures.value put) bits

pub returns-then-is_err : goal.returns-then-is_err
returns-then-is_err g c =
    let put = rw c.deref.ensures.value at c.write_all-put.ensures.written in
    writes_refused_by _ _ _ _ c.write_all-put.result c.if-is_err.ensures.value put

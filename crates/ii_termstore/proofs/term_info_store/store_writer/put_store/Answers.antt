use Rattle.std.proofs.Common.{◌≡◌, length, rules}
use Rattle.ii_io.proofs.WriteSteps.{Wrote-trans, writes_then, writes_went, writes_refused_by}
use Rattle.ii_termstore.proofs.term_info_store.store_writer.put_store.Goals as goal

pub returns-then-is_err-2-clause-written : goal.returns-then-is_err-2-clause-written
returns-then-is_err-2-clause-written g c =
    let size : c.len-offset.result ≡ length c.args.blocks.now.block_bits.items = search rules in
    let metas = rw size at c.put_metas-metas.ensures in
    writes_refused_by _ _ _ _ c.put_metas-metas.result c.if-is_err-2.ensures.value
    (writes_then _ _ _ _ _ c.put_metas-metas.result (writes_went _ _ _ c.put_head-head.result c.if-is_err.ensures.value c.put_head-head.ensures) metas)

pub returns-clause-written : goal.returns-clause-written
returns-clause-written g c =
    let size : c.len-offset.result ≡ length c.args.blocks.now.block_bits.items = search rules in
    let put = rw size at c.put_metas-metas.ensures in
    let head = writes_went _ _ _ c.put_head-head.result c.if-is_err.ensures.value c.put_head-head.ensures in
    let metas = writes_went _ _ _ c.put_metas-metas.result c.if-is_err-2.ensures.value put in
    writes_then _ _ _ _ _ c.put_bits.result (Wrote-trans _ _ _ _ _ head metas) c.put_bits.ensures

pub returns-then-is_err-clause-written : goal.returns-then-is_err-clause-written
returns-then-is_err-clause-written g c =
    let refused = c.if-is_err.ensures.value in
    writes_refused_by _ _ _ _ c.put_head-head.result refused (writes_refused_by _ _ _ _ c.put_head-head.result refused c.put_head-head.ensures)

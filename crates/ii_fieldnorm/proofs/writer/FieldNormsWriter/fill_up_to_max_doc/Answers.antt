use Rattle.std.proofs.Common.{arith}
use Rattle.ii_fieldnorm.proofs.BufferLemmas.{filled_front, fill_step}
use Rattle.ii_fieldnorm.proofs.writer.FieldNormsWriter.fill_up_to_max_doc.Goals as goal

pub returns-in_err-fill_up-clause-err : goal.returns-in_err-fill_up-clause-err
returns-in_err-fill_up-clause-err c =
    rw (← c.self.view_is, c.in_err-fill_up.ensures.err) (filled_front c.from_residual.result c.args.max_doc c.self.inside.buffers.items c.loop-i.self-inside.buffers.items c.loop-i.i c.index_mut.result.now c.loop-i.invariant c.index_mut.ensures.value)

pub loop-i-preserved : goal.loop-i-preserved
loop-i-preserved c =
    fill_step c.args.max_doc c.self.inside.buffers.items c.loop-i.self-inside.buffers.items c.loop-i.i c.index_mut.result.now c.fill_up.new.self (omega arith) c.loop-i.invariant c.index_mut.ensures.value c.in_ok-fill_up.ensures.ok

use Rattle.ii_fieldnorm.proofs.BufferLemmas.{next_asked, written_more, written_refused, written_first}
use Rattle.ii_fieldnorm.proofs.writer.write_buffers.Goals as goal

pub write_buffer-written-requires : goal.write_buffer-written-requires
write_buffer-written-requires g c =
    rw c.from_field_id.ensures (next_asked c.args.serializer.now c.loop-i.serializer c.args.buffers.now c.loop-i.i c.index-buffers-i.result c.loop-i-test.true c.index-buffers-i.is c.loop-i.invariant c.requires.unwritten c.requires.few)

pub returns-then-is_err-clause-written : goal.returns-then-is_err-clause-written
returns-then-is_err-clause-written g c =
    written_refused c.args.serializer.now c.loop-i.serializer c.write_buffer-written.new.serializer c.args.buffers.now c.loop-i.i c.index-buffers-i.result c.loop-i-test.true c.index-buffers-i.is c.loop-i.invariant c.write_buffer-written.result c.if-is_err.ensures.value c.write_buffer-written.ensures.written

pub loop-i-preserved : goal.loop-i-preserved
loop-i-preserved g c =
    written_more c.args.serializer.now c.loop-i.serializer c.write_buffer-written.new.serializer c.args.buffers.now c.loop-i.i c.index-buffers-i.result c.loop-i-test.true c.index-buffers-i.is c.loop-i.invariant c.write_buffer-written.result c.if-is_err.ensures.value c.write_buffer-written.ensures.written (rw c.from_field_id.ensures at c.write_buffer-written.ensures.adds)

pub loop-i-init : goal.loop-i-init
loop-i-init g c = written_first c.args.serializer.now

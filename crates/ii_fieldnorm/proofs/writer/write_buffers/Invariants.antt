use Rattle.std.proofs.Common.{take}
use Rattle.ii_fieldnorm.proofs.BufferLemmas.{HasWritten}
use Rattle.ii_fieldnorm.proofs.writer.write_buffers.Given as goal

abbrev pub invariant-loop-i : goal.invariant-loop-i
invariant-loop-i g l = HasWritten l.initial.serializer l.serializer (take l.i l.buffers)

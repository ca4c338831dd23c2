use Rattle.std.proofs.Common.{◌≡◌, ◌++◌, take, drop}
use Rattle.ii_fieldnorm.specs.Buffers.{filled_buffers}
use Rattle.ii_fieldnorm.proofs.writer.FieldNormsWriter.fill_up_to_max_doc.Given as goal

abbrev pub invariant-loop-i : goal.invariant-loop-i
invariant-loop-i l =
    l.self-inside.buffers.items ≡ filled_buffers l.max_doc (take l.i l.initial.self-inside.buffers.items) ++ drop l.i l.initial.self-inside.buffers.items

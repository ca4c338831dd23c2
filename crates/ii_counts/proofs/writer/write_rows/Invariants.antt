use Rattle.std.proofs.Common.{take}
use Rattle.std.specs.List.{AllByRecursion}
use Rattle.ii_fieldnorm.proofs.BufferLemmas.{HasWritten}
use Rattle.ii_counts.specs.CountsWriter.{IsReadBack, row_buffers}
use Rattle.ii_counts.proofs.writer.write_rows.Given as goal

-- the rows so far were written
abbrev pub invariant-loop-i : goal.invariant-loop-i
invariant-loop-i g l = record {
  has : HasWritten l.initial.serializer l.serializer (take l.i (row_buffers l.rows));
  read : AllByRecursion IsReadBack (take l.i l.rows);
}

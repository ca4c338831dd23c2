use Rattle.std.proofs.Common.{◌≡◌, ◌++◌, drop, map, take}
use Rattle.ii_fieldnorm.specs.Buffers.{filled}
use Rattle.ii_counts.proofs.writer.fill_rows.Given as goal

-- the rows so far were resized, and the others are unchanged
abbrev pub invariant-loop-i : goal.invariant-loop-i
invariant-loop-i l = l.rows.items ≡ map (filled l.num_docs) (take l.i l.initial.rows.items) ++ drop l.i l.initial.rows.items

use Rattle.std.proofs.Common.{◌≡◌, [], replicate}
use Rattle.ii_counts.proofs.writer.CountsWriter.for_schema.Given as goal

-- a row for each field so far
abbrev pub invariant-loop-field : goal.invariant-loop-field
invariant-loop-field l = l.rows.items ≡ replicate l._field []

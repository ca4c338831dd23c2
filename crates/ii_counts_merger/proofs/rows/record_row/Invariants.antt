use Rattle.ii_counts_merger.specs.CountsSources.{SetsRow}
use Rattle.ii_counts_merger.proofs.rows.record_row.Given as goal

abbrev pub invariant-loop-place : goal.invariant-loop-place
invariant-loop-place l = SetsRow l.fn.writer l.writer l.field l.place l.row

use Rattle.std.proofs.Common.{◌≡◌, ◌≤◌, take}
use Rattle.std.specs.List.{sum_by}
use Rattle.ii_open_segments.specs.OpenFiles.{len_before}
use Rattle.ii_open_segments.proofs.opening.table_start.Given as goal

-- the lengths of the tables before the index
abbrev pub invariant-loop-file : goal.invariant-loop-file
invariant-loop-file l = record { counted : l.start ≡ sum_by (len_before l.component) (take l.file-index l.files); within : l.start ≤ l.end }

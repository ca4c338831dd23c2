use Rattle.std.proofs.Common.{◌≡◌, drop}
use Rattle.std.specs.List.{list_any}
use Rattle.ii_counts.specs.CountsWriter.{is_limit}
use Rattle.ii_counts.proofs.writer.CountsWriter.has_limit.Given as goal

-- none of the rows so far has the limit
abbrev pub invariant-loop-row : goal.invariant-loop-row
invariant-loop-row l = list_any (list_any is_limit) (drop l.row-index l.self) ≡ list_any (list_any is_limit) l.self

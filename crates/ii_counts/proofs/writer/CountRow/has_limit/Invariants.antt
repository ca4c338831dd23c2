use Rattle.std.proofs.Common.{◌≡◌, drop}
use Rattle.std.specs.List.{list_any}
use Rattle.ii_counts.specs.CountsWriter.{is_limit}
use Rattle.ii_counts.proofs.writer.CountRow.has_limit.Given as goal

-- none of the numbers so far is the limit
abbrev pub invariant-loop-count : goal.invariant-loop-count
invariant-loop-count l = list_any is_limit (drop l.count-index l.self) ≡ list_any is_limit l.self

use Rattle.std.proofs.Common.{map, reverse}
use Rattle.nequllpa_indexing.specs.KeyedLines.{KeepsLast, line_view}
use Rattle.nequllpa_indexing.proofs.keyed_lines.last_of_each.Given as goal

-- of the lines so far, from the last one on, the last one of each key is kept
abbrev pub invariant-loop-line : goal.invariant-loop-line
invariant-loop-line l = KeepsLast (map line_view (reverse l.yielded)) l.seen.keys l.kept.items

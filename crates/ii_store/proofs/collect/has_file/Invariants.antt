use Rattle.std.proofs.Common.{◌≡◌, false, take}
use Rattle.std.specs.List.{list_any}
use Rattle.ii_store.proofs.CollectLaws.{here}
use Rattle.ii_store.proofs.collect.has_file.Given as goal

-- no segment before the index has the file
abbrev pub invariant-loop-segment : goal.invariant-loop-segment
invariant-loop-segment l = list_any (here l.id l.component l.segments) (take l.segment-index l.segments) ≡ false

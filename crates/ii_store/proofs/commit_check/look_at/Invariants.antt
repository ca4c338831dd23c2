use Rattle.std.proofs.Common.{take}
use Rattle.ii_store.specs.Segments.{HasContents}
use Rattle.ii_store.proofs.CheckLaws.{files_of}
use Rattle.ii_store.proofs.commit_check.look_at.Given as goal

-- the files of the segments before the index are there
abbrev pub invariant-loop-segment : goal.invariant-loop-segment
invariant-loop-segment g l = g.D.Directory.is_known l.directory → HasContents (files_of (take l.segment-index l.segments)) (g.D.Directory.seen l.directory)

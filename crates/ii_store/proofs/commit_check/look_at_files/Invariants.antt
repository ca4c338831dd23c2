use Rattle.std.proofs.Common.{take}
use Rattle.std.specs.Prelude.{map}
use Rattle.ii_store.specs.Segments.{HasContents}
use Rattle.ii_store.proofs.CheckLaws.{listed_as}
use Rattle.ii_store.proofs.commit_check.look_at_files.Given as goal

-- the files before the index are there
abbrev pub invariant-loop-file : goal.invariant-loop-file
invariant-loop-file g l = g.D.Directory.is_known l.directory → HasContents (map (listed_as l.id) (take l.file-index l.files)) (g.D.Directory.seen l.directory)

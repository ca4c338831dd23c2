use Rattle.std.proofs.Common.{take}
use Rattle.std.specs.List.{AllByRecursion}
use Rattle.ii_store.specs.IndexMeta.{FileFits}
use Rattle.ii_store.proofs.commit_check.files_fit.Given as goal

-- the files before the index fit
abbrev pub invariant-loop-file : goal.invariant-loop-file
invariant-loop-file l = AllByRecursion FileFits (take l.file-index l.files)

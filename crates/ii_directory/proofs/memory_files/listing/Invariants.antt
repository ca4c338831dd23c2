use Rattle.std.proofs.Common.{take}
use Rattle.std.specs.Prelude.{map}
use Rattle.ii_directory.specs.MemoryFiles.{Lists, files_after, target}
use Rattle.ii_directory.proofs.memory_files.listing.Given as goal

-- the targets of the changes before the index were looked at
abbrev pub invariant-loop-change : goal.invariant-loop-change
invariant-loop-change l = Lists (files_after l.changes) (map target (take l.change-index l.changes)) l.names.items

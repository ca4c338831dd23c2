use Rattle.std.proofs.Common.{◌≡◌, false, take}
use Rattle.std.specs.List.{list_any}
use Rattle.ii_directory.specs.Names.{same_name}
use Rattle.ii_directory.proofs.memory_files.has_name.Given as goal

-- no name before the index is the one
abbrev pub invariant-loop-other : goal.invariant-loop-other
invariant-loop-other l = list_any (same_name l.name) (take l.other-index l.names) ≡ false

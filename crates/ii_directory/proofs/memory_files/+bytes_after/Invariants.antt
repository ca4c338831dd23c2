use Rattle.std.proofs.Common.{length}
use Rattle.ii_directory.proofs.memory_files.+bytes_after.Given as goal

abbrev pub decreases-bytes_after : goal.decreases-bytes_after
decreases-bytes_after l = length l.changes.now

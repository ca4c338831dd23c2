use Rattle.std.proofs.Common.{inr}
use Rattle.ii_directory.proofs.memory_files.MemoryFiles.stop_in_put.Goals as goal

pub returns-clause-put : goal.returns-clause-put
returns-clause-put c = inr (_, c.in-Ok-push.ensures.items)

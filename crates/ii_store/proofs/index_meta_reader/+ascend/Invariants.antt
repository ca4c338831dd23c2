use Rattle.std.proofs.Common.{length}
use Rattle.ii_store.proofs.index_meta_reader.+ascend.Given as goal

abbrev pub decreases-ascend : goal.decreases-ascend
decreases-ascend l = length l.files.now

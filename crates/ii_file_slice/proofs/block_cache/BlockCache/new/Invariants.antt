use Rattle.std.proofs.Common.{◌<◌, length}
use Rattle.ii_file_slice.specs.BlockCache.{AreBlocksOf}
use Rattle.ii_file_slice.proofs.block_cache.BlockCache.new.Given as goal

abbrev pub invariant-loop-i : goal.invariant-loop-i
invariant-loop-i g l = record {
  places : 0 < length l.blocks.items;
  blocks : AreBlocksOf (g.H.FileHandle.bytes l.file) l.blocks.items;
}

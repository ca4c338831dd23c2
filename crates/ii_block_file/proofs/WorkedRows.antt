-- Worked rows of the definitions.
use Rattle.std.proofs.Common.{◌≡◌, refl}
use Rattle.ii_block_file.specs.BlockTable.{num_file_blocks}

-- no byte takes no block; 4,096 bytes take one, and one byte more takes two
none : num_file_blocks 0 ≡ 0
none = refl

one : num_file_blocks 4096 ≡ 1
one = refl

two : num_file_blocks 4097 ≡ 2
two = refl

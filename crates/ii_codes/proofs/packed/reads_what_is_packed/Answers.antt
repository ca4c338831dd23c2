use Rattle.ii_codes.proofs.BlockLaws.{reads_sorted_blocks, reads_unsorted_blocks}
use Rattle.ii_codes.proofs.packed.reads_what_is_packed.Goals as goal

pub returns-clause-sorted : goal.returns-clause-sorted
returns-clause-sorted c = reads_sorted_blocks

pub returns-clause-unsorted : goal.returns-clause-unsorted
returns-clause-unsorted c = reads_unsorted_blocks

use Rattle.ii_layout.specs.Written.{block_of}
use Rattle.ii_promises.proofs.BoundLaws.{known_bounds}
use Rattle.ii_promises.proofs.bounds.counts_stay_within_bounds.Goals as goal

pub returns : goal.returns
returns c = λ freqs bounds read told some known.
    known_bounds c.args.blocks.now.bounds c.args.blocks.now.block (block_of freqs c.args.blocks.now.block) c.block_bounds.result bounds c.block_bounds.ensures.bounds told some known (c.block_bounds.ensures.bounded freqs read)

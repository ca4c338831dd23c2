use Rattle.std.proofs.Common.{arith, refl}
use Rattle.ii_codes.proofs.LastLemmas.{last-wide, last-short, last-found, last-past}
use Rattle.ii_codes.proofs.packed.last_of_sorted_block.Goals as goal

pub returns-then-num_bits-gt32 : goal.returns-then-num_bits-gt32
returns-then-num_bits-gt32 c = last-wide c.args.strict_delta c.args.offset c.args.num_bits c.args.compressed_data.now (omega arith)

pub returns-then-compressed_data-compressed_block_size :
    goal.returns-then-compressed_data-compressed_block_size
returns-then-compressed_data-compressed_block_size c =
    last-short c.args.strict_delta c.args.offset c.args.num_bits c.args.compressed_data.now (omega arith) (omega arith)

pub returns-then-last-from : goal.returns-then-last-from
returns-then-last-from c =
    last-past c.args.strict_delta c.args.offset c.args.num_bits c.gap_of-gap.result c.least_first.result c.sum_of.result _ c.args.compressed_data.now
    (record { narrow = omega arith; enough = omega arith; step = c.gap_of-gap.ensures; first = c.least_first.ensures; total = c.sum_of.ensures.value }) refl (omega arith)

pub returns : goal.returns
returns c =
    last-found c.args.strict_delta c.args.offset c.args.num_bits c.gap_of-gap.result c.least_first.result c.sum_of.result _ c.args.compressed_data.now
    (record { narrow = omega arith; enough = omega arith; step = c.gap_of-gap.ensures; first = c.least_first.ensures; total = c.sum_of.ensures.value }) refl (omega arith)

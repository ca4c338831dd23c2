use Rattle.std.proofs.Common.{arith, refl}
use Rattle.ii_codes.specs.Packed.{unpacked}
use Rattle.ii_codes.proofs.BlockLemmas.{sorted-wide, sorted-short, sorted-unfit, sorted-found}
use Rattle.ii_codes.proofs.packed.unpack_sorted.Goals as goal

pub returns-then-width-gt32-clause-value : goal.returns-then-width-gt32-clause-value
returns-then-width-gt32-clause-value c = sorted-wide c.args.strict c.args.offset c.args.width c.args.bytes.now (omega arith)

pub returns-then-bytes-size-clause-value : goal.returns-then-bytes-size-clause-value
returns-then-bytes-size-clause-value c = sorted-short c.args.strict c.args.offset c.args.width c.args.bytes.now (omega arith) (omega arith)

pub returns-then-sorted_values-clause-value : goal.returns-then-sorted_values-clause-value
returns-then-sorted_values-clause-value c =
    sorted-found c.args.strict c.args.offset c.args.width c.gap_of.result c.least_first-least.result c.compressed_block_size-size.result c.args.bytes.now c.sorted_values.new.output
    (omega arith) (omega arith) c.compressed_block_size-size.ensures c.gap_of.ensures c.least_first-least.ensures c.if-sorted_values.ensures.fits c.if-sorted_values.ensures.values

pub returns-else-sorted_values-clause-value : goal.returns-else-sorted_values-clause-value
returns-else-sorted_values-clause-value c =
    sorted-unfit c.args.strict c.args.offset c.args.width c.gap_of.result c.least_first-least.result c.args.bytes.now (unpacked c.args.width c.args.bytes.now)
    (omega arith) (omega arith) refl c.gap_of.ensures c.least_first-least.ensures c.if-sorted_values.ensures.fits

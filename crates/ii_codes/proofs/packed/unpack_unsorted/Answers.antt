use Rattle.std.proofs.Common.{true, arith}
use Rattle.ii_codes.proofs.BlockLemmas.{unsorted-wide, unsorted-short, unsorted-unfit, unsorted-found, unsorted-plain, unsorted-raised, not_raised}
use Rattle.ii_codes.proofs.packed.unpack_unsorted.Goals as goal

pub returns-then-width-gt32-clause-value : goal.returns-then-width-gt32-clause-value
returns-then-width-gt32-clause-value c = unsorted-wide c.args.minus_one c.args.width c.args.bytes.now (omega arith)

pub returns-then-bytes-size-clause-value : goal.returns-then-bytes-size-clause-value
returns-then-bytes-size-clause-value c = unsorted-short c.args.minus_one c.args.width c.args.bytes.now (omega arith) (omega arith)

pub returns-then-not-minus_one-clause-value : goal.returns-then-not-minus_one-clause-value
returns-then-not-minus_one-clause-value c =
    unsorted-plain c.args.minus_one c.args.width c.compressed_block_size-size.result c.args.bytes.now c.unpack.new.output
    (omega arith) (omega arith) c.compressed_block_size-size.ensures c.unpack.ensures c.if-not-minus_one.true

pub returns-then-width-lt32-clause-value : goal.returns-then-width-lt32-clause-value
returns-then-width-lt32-clause-value c =
    unsorted-raised c.args.minus_one c.args.width c.compressed_block_size-size.result c.args.bytes.now c.unpack-then-width-lt32.new.output
    (omega arith) (omega arith) c.compressed_block_size-size.ensures c.unpack-then-width-lt32.ensures c.if-not-minus_one.false

pub returns-then-add_one-clause-value : goal.returns-then-add_one-clause-value
returns-then-add_one-clause-value c =
    let entries = not_raised c.args.width c.args.bytes.now c.unpack-2.new.output c.unpack-2.ensures in
    rw c.if-not-minus_one.false (unsorted-found true c.args.width c.compressed_block_size-size.result c.args.bytes.now c.unpack-2.new.output c.add_one.new.output
    (omega arith) (omega arith) c.compressed_block_size-size.ensures entries c.if-add_one.ensures.fits c.if-add_one.ensures.values)

pub returns-else-add_one-clause-value : goal.returns-else-add_one-clause-value
returns-else-add_one-clause-value c =
    let entries = not_raised c.args.width c.args.bytes.now c.unpack-2.new.output c.unpack-2.ensures in
    rw c.if-not-minus_one.false (unsorted-unfit true c.args.width c.args.bytes.now c.unpack-2.new.output
    (omega arith) (omega arith) entries c.if-add_one.ensures.fits)

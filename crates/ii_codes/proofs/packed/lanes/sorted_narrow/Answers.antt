use Rattle.std.proofs.Common.{◌≡◌, ◌+◌, ◌*◌, arith}
use Rattle.ii_codes.specs.Packed.{unpacked}
use Rattle.ii_codes.proofs.PackedLaws.{length-unpacked}
use Rattle.ii_codes.proofs.LaneLemmas.{eight_small, block_eight, entries_small, lanes-first, lanes-more, lanes-fits, lanes-values}
use Rattle.ii_codes.proofs.packed.lanes.sorted_narrow.Goals as goal

pub loop-group-init : goal.loop-group-init
loop-group-init g c = lanes-first c.args.gap c.args.least _ c.args.output.now c.requires.gap c.requires.least

pub running-sums-requires-clause-small : goal.running-sums-requires-clause-small
running-sums-requires-clause-small g c = rw c.eight.ensures (eight_small c.args.bytes.now (c.loop-group.group * g.row.W) g.row.W c.requires.narrow)

pub loop-group-preserved : goal.loop-group-preserved
loop-group-preserved g c =
    let next : 8 * (c.loop-group.group + 1) ≡ 8 * c.loop-group.group + 8 = omega arith in
    let sums = rw c.eight.ensures at c.running-sums.ensures in
    let written = rw (c.loop-group.invariant.lanes, sums) at c.put_eight.ensures in
    rw (next, c.loop-group.invariant.lanes, sums) (lanes-more c.args.gap c.args.least (8 * c.loop-group.group) _ _ _ _ _ _ _ _ _ (unpacked g.row.W c.args.bytes.now) c.loop-group.output c.put_eight.new.output
    c.loop-group.invariant.values (block_eight g.row.W c.loop-group.group c.args.bytes.now (omega arith)) written)

pub returns-clause-fits : goal.returns-clause-fits
returns-clause-fits g c =
    rw c.from.ensures (lanes-fits c.args.gap c.args.least (8 * c.loop-group.group) _ (unpacked g.row.W c.args.bytes.now) c.loop-group.output c.loop-group.invariant.values
    (omega arith) (length-unpacked g.row.W c.args.bytes.now) (omega arith) c.requires.gap (entries_small g.row.W c.args.bytes.now (omega arith)))

pub returns-clause-values : goal.returns-clause-values
returns-clause-values g c =
    let fits = lanes-fits c.args.gap c.args.least (8 * c.loop-group.group) _ (unpacked g.row.W c.args.bytes.now) c.loop-group.output c.loop-group.invariant.values
    (omega arith) (length-unpacked g.row.W c.args.bytes.now) (omega arith) c.requires.gap (entries_small g.row.W c.args.bytes.now (omega arith)) in
    rw c.from.ensures (lanes-values c.args.gap c.args.least (8 * c.loop-group.group) _ _ (unpacked g.row.W c.args.bytes.now) c.loop-group.output c.loop-group.invariant.values
    (omega arith) (length-unpacked g.row.W c.args.bytes.now) (omega arith) fits)

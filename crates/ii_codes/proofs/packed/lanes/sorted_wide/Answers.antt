use Rattle.std.proofs.Common.{◌≡◌, ◌+◌, ◌*◌, ◌/◌, ◌%◌, arith}
use Rattle.ii_codes.specs.Packed.{unpacked}
use Rattle.ii_codes.proofs.PackedLaws.{length-unpacked}
use Rattle.ii_codes.proofs.LaneLemmas.{entries_small, lanes-fits, lanes-values}
use Rattle.ii_codes.proofs.WideLaneLemmas.{block_four, fours-first, fours-more}
use Rattle.ii_codes.proofs.packed.lanes.sorted_wide.Goals as goal

pub loop-group-init : goal.loop-group-init
loop-group-init g c = fours-first c.args.gap c.args.least _ c.args.output.now c.requires.gap c.requires.least

pub put_sorted_four-low-requires-clause-before : goal.put_sorted_four-low-requires-clause-before
put_sorted_four-low-requires-clause-before g c = c.loop-group.invariant.lanes

pub loop-group-preserved : goal.loop-group-preserved
loop-group-preserved g c =
    let next : 8 * (c.loop-group.group + 1) ≡ 8 * c.loop-group.group + 4 + 4 = omega arith in
    let one = fours-more c.args.gap c.args.least (8 * c.loop-group.group) _ _ _ _ _ (unpacked g.row.W c.args.bytes.now) c.loop-group.output c.put_sorted_four-low.new.output
    c.loop-group.invariant.values (block_four g.row.W (8 * c.loop-group.group) (c.loop-group.group * g.row.W) 0 c.args.bytes.now (omega arith) (omega arith)) c.put_sorted_four-low.ensures.written in
    let two = fours-more c.args.gap c.args.least (8 * c.loop-group.group + 4) _ _ _ _ _ (unpacked g.row.W c.args.bytes.now) c.put_sorted_four-low.new.output c.put_sorted_four-before.new.output
    one.values (block_four g.row.W (8 * c.loop-group.group + 4) (c.loop-group.group * g.row.W + g.row.W / 2) (g.row.W % 2 * 4) c.args.bytes.now (omega arith) (omega arith))
    (rw c.put_sorted_four-low.ensures.last at c.put_sorted_four-before.ensures.written) in
    rw (next, c.put_sorted_four-before.ensures.last, c.put_sorted_four-low.ensures.last) two

pub returns-clause-fits : goal.returns-clause-fits
returns-clause-fits g c =
    rw c.from.ensures (lanes-fits c.args.gap c.args.least (8 * c.loop-group.group) _ (unpacked g.row.W c.args.bytes.now) c.loop-group.output c.loop-group.invariant.values
    (omega arith) (length-unpacked g.row.W c.args.bytes.now) (omega arith) c.requires.gap (entries_small g.row.W c.args.bytes.now (omega arith)))

pub returns-clause-values : goal.returns-clause-values
returns-clause-values g c =
    let fits = lanes-fits c.args.gap c.args.least (8 * c.loop-group.group) _ (unpacked g.row.W c.args.bytes.now) c.loop-group.output c.loop-group.invariant.values
    (omega arith) (length-unpacked g.row.W c.args.bytes.now) (omega arith) c.requires.gap (entries_small g.row.W c.args.bytes.now (omega arith)) in
    rw c.from.ensures (lanes-values c.args.gap c.args.least (8 * c.loop-group.group) _ _ (unpacked g.row.W c.args.bytes.now) c.loop-group.output c.loop-group.invariant.values
    (omega arith) (length-unpacked g.row.W c.args.bytes.now) (omega arith) fits)

use Rattle.std.proofs.Common.{◌≡◌, ◌+◌, ◌*◌, ◌/◌, ◌%◌, arith}
use Rattle.ii_codes.specs.Blocks.{raised}
use Rattle.ii_codes.specs.Packed.{unpacked}
use Rattle.ii_codes.proofs.WideLaneLemmas.{filling-all, raised_four-more, length-raised}
use Rattle.ii_codes.proofs.packed.lanes.unpack_wide.Goals as goal

pub loop-group-preserved : goal.loop-group-preserved
loop-group-preserved g c =
    let next : 8 * (c.loop-group.group + 1) ≡ 8 * c.loop-group.group + 4 + 4 = omega arith in
    let first = rw c.four-low.ensures at c.put_four.ensures in
    let second = rw c.four-high.ensures at c.put_four-in-loop-group.ensures in
    let low = raised_four-more c.args.more g.row.W (8 * c.loop-group.group) (c.loop-group.group * g.row.W) 0 c.args.bytes.now c.loop-group.output c.put_four.new.output
    (omega arith) (omega arith) c.requires.narrow c.requires.more c.loop-group.invariant first in
    rw next (raised_four-more c.args.more g.row.W (8 * c.loop-group.group + 4) (c.loop-group.group * g.row.W + g.row.W / 2) (g.row.W % 2 * 4) c.args.bytes.now c.put_four.new.output c.put_four-in-loop-group.new.output
    (omega arith) (omega arith) c.requires.narrow c.requires.more low second)

pub returns : goal.returns
returns g c = filling-all (8 * c.loop-group.group) (raised c.args.more (unpacked g.row.W c.args.bytes.now)) c.loop-group.output c.loop-group.invariant (omega (arith, length-raised c.args.more g.row.W c.args.bytes.now)) (omega arith)

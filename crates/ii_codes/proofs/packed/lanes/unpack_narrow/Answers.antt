use Rattle.std.proofs.Common.{◌≡◌, ◌+◌, ◌*◌, arith}
use Rattle.ii_codes.specs.Blocks.{raised}
use Rattle.ii_codes.specs.Packed.{unpacked}
use Rattle.ii_codes.proofs.WideLaneLemmas.{filling-all, raised_eight-more, length-raised}
use Rattle.ii_codes.proofs.packed.lanes.unpack_narrow.Goals as goal

pub loop-group-preserved : goal.loop-group-preserved
loop-group-preserved g c =
    let next : 8 * (c.loop-group.group + 1) ≡ 8 * c.loop-group.group + 8 = omega arith in
    let written = rw c.eight-entries.ensures at c.put_eight.ensures in
    rw next (raised_eight-more c.args.more g.row.W c.loop-group.group c.args.bytes.now c.loop-group.output c.put_eight.new.output (omega arith) (omega arith) c.requires.more c.loop-group.invariant written)

pub returns : goal.returns
returns g c = filling-all (8 * c.loop-group.group) (raised c.args.more (unpacked g.row.W c.args.bytes.now)) c.loop-group.output c.loop-group.invariant (omega (arith, length-raised c.args.more g.row.W c.args.bytes.now)) (omega arith)

use Rattle.std.proofs.Common.{◌≡◌, ◌+◌, ◌*◌, arith, refl}
use Rattle.ii_codes.proofs.PackedLemmas.{bits_in-lt, entries_in-zero, raised_written, all_raised}
use Rattle.ii_codes.proofs.packed.unpack_width.Goals as goal

pub loop-group-init : goal.loop-group-init
loop-group-init g c = rw entries_in-zero refl

pub overflow_add-output : goal.overflow_add-output
overflow_add-output g c =
    let small = bits_in-lt 8 c.args.bytes.now ((8 * c.loop-group.group + c.loop-i.i) * g.row.W) g.row.W in
    rw c.entry_of.ensures (omega (arith, small, c.requires.fits))

pub loop-i-preserved : goal.loop-i-preserved
loop-i-preserved g c =
    let more : 8 * c.loop-group.group + (c.loop-i.i + 1) ≡ 8 * c.loop-group.group + c.loop-i.i + 1 = omega arith in
    rw more (raised_written 8 g.row.W (8 * c.loop-group.group + c.loop-i.i) c.entry_of.result c.args.more c.args.bytes.now c.loop-i.output c.loop-i.invariant c.entry_of.ensures (omega arith))

pub returns : goal.returns
returns g c =
    let end : 8 * c.loop-group.group ≡ 128 = omega arith in
    all_raised g.row.W c.args.more c.args.bytes.now c.loop-group.output (rw end at c.loop-group.invariant) (omega arith)

use Rattle.std.proofs.Common.{◌≡◌, ◌*◌, arith, sym}
use Rattle.ii_codes.proofs.PackedLemmas.{entries_in-zero, all_packed}
use Rattle.ii_codes.proofs.PackLemmas.{packing-starts}
use Rattle.ii_codes.proofs.packed.pack_width.Goals as goal

pub loop-group-init : goal.loop-group-init
loop-group-init g c =
    let none : 0 * g.row.W ≡ 0 = omega arith in
    rw none (sym (entries_in-zero g.row.W 8 c.args.entries.now))

pub pack_eight-word-requires-clause-before : goal.pack_eight-word-requires-clause-before
pack_eight-word-requires-clause-before g c = packing-starts g.row.W c.loop-group.group c.args.entries.now c.loop-group.output c.loop-group.invariant

pub returns : goal.returns
returns g c =
    let last : c.loop-group.group ≡ 4 = omega arith in
    let end : 4 * c.loop-group.group * g.row.W ≡ 16 * g.row.W = rw last (omega arith) in
    all_packed g.row.W (4 * c.loop-group.group * g.row.W) c.args.entries.now c.loop-group.output c.loop-group.invariant end

use Rattle.std.proofs.Common.{◌≡◌, ◌+◌, ◌*◌, ◌∙◌, arith, sym}
use Rattle.ii_codes.specs.Packed.{unpacked}
use Rattle.ii_codes.proofs.PackedLaws.{length-unpacked, get_or-unpacked}
use Rattle.ii_codes.proofs.PrefixLemmas.{summing-more, summing-fits, summing-values}
use Rattle.ii_codes.proofs.packed.sorted_width.Goals as goal

pub loop-i-preserved : goal.loop-i-preserved
loop-i-preserved g c =
    let k = 8 * c.loop-group.group + c.loop-i.i in
    let more : 8 * c.loop-group.group + (c.loop-i.i + 1) ≡ 8 * c.loop-group.group + c.loop-i.i + 1 = omega arith in
    let entry = c.from-entry.ensures ∙ c.entry_of.ensures ∙ sym (get_or-unpacked g.row.W (8 * c.loop-group.group + c.loop-i.i) c.args.bytes.now (omega arith)) in
    rw more (summing-more c.args.gap c.args.least c.loop-i.next (8 * c.loop-group.group + c.loop-i.i) c.from-entry.result (unpacked g.row.W c.args.bytes.now) c.loop-i.output c.loop-i.invariant
    (omega (arith, length-unpacked g.row.W c.args.bytes.now)) (omega arith) entry (omega arith) c.requires.gap)

pub returns-clause-fits : goal.returns-clause-fits
returns-clause-fits g c =
    summing-fits c.args.gap c.args.least c.loop-group.next (8 * c.loop-group.group) (unpacked g.row.W c.args.bytes.now) c.loop-group.output c.loop-group.invariant (omega (arith, length-unpacked g.row.W c.args.bytes.now))

pub returns-clause-values : goal.returns-clause-values
returns-clause-values g c =
    summing-values c.args.gap c.args.least c.loop-group.next (8 * c.loop-group.group) (unpacked g.row.W c.args.bytes.now) c.loop-group.output c.loop-group.invariant (omega (arith, length-unpacked g.row.W c.args.bytes.now)) (omega arith)

use Rattle.std.proofs.Common.{◌≡◌, ◌+◌, ◌*◌, ◌++◌, length, drop, refl, ◌∙◌, arith}
use lib.LanesLaws.{fold-sum}
use borrow.Author.Lanes.{adds_fit, sum_fits}
use mir.Syntax.{w16}
use Rattle.ii_codes.specs.Packed.{unpacked}
use Rattle.ii_codes.proofs.PackedLaws.{length-unpacked}
use Rattle.ii_codes.proofs.LaneLemmas.{block_eight}
use Rattle.ii_codes.proofs.SumLaneLemmas.{added_within, added_more, added_all, sum_most}
use Rattle.ii_codes.proofs.packed.lanes.sum_narrow.Goals as goal

pub overflow_add-sums : goal.overflow_add-sums
overflow_add-sums g c =
    let es = unpacked g.row.W c.args.bytes.now in
    let here : drop (8 * c.loop-group.group) es ≡ c.eight-sums.result ++ drop (8 * c.loop-group.group + 8) es = rw c.eight-sums.ensures (block_eight g.row.W c.loop-group.group c.args.bytes.now (omega arith)) in
    adds_fit w16 c.loop-group.sums c.eight-sums.result (omega (arith, added_within 8 (8 * c.loop-group.group) (8 * c.loop-group.group + 8) es c.loop-group.sums c.eight-sums.result c.loop-group.invariant here, sum_most g.row.W 9 c.args.bytes.now c.requires.narrow))

pub loop-group-preserved : goal.loop-group-preserved
loop-group-preserved g c =
    let es = unpacked g.row.W c.args.bytes.now in
    let next : 8 * (c.loop-group.group + 1) ≡ 8 * c.loop-group.group + 8 = omega arith in
    let here : drop (8 * c.loop-group.group) es ≡ c.eight-sums.result ++ drop (8 * c.loop-group.group + 8) es = rw c.eight-sums.ensures (block_eight g.row.W c.loop-group.group c.args.bytes.now (omega arith)) in
    let many : length c.eight-sums.result ≡ 8 = rw c.eight-sums.ensures (refl {a = 8}) in
    rw next (added_more 8 (8 * c.loop-group.group) (8 * c.loop-group.group + 8) es c.loop-group.sums c.eight-sums.result c.loop-group.invariant many here)

pub overflow_add-sums-2 : goal.overflow_add-sums-2
overflow_add-sums-2 g c =
    let es = unpacked g.row.W c.args.bytes.now in
    sum_fits w16 0 c.loop-group.sums (omega (arith, c.loop-group.invariant.total, sum_most g.row.W 9 c.args.bytes.now c.requires.narrow))

pub returns-clause-value : goal.returns-clause-value
returns-clause-value g c =
    c.from.ensures ∙ fold-sum 0 c.loop-group.sums
    ∙ added_all 8 (8 * c.loop-group.group) (unpacked g.row.W c.args.bytes.now) c.loop-group.sums c.loop-group.invariant (omega (arith, length-unpacked g.row.W c.args.bytes.now))

pub returns-clause-fits : goal.returns-clause-fits
returns-clause-fits g c =
    let whole = c.from.ensures ∙ fold-sum 0 c.loop-group.sums in
    omega (arith, whole, c.loop-group.invariant.total, sum_most g.row.W 9 c.args.bytes.now c.requires.narrow)

use Rattle.std.proofs.Common.{◌≡◌, ◌+◌, ◌*◌, ◌/◌, ◌%◌, ◌++◌, length, drop, refl, ◌∙◌, arith}
use lib.LanesLaws.{fold-sum}
use borrow.Author.Lanes.{adds_fit, sum_fits}
use mir.Syntax.{w32}
use Rattle.ii_codes.specs.Packed.{unpacked}
use Rattle.ii_codes.proofs.PackedLaws.{length-unpacked}
use Rattle.ii_codes.proofs.WideLaneLemmas.{block_four}
use Rattle.ii_codes.proofs.SumLaneLemmas.{added_within, added_more, added_all, sum_most}
use Rattle.ii_codes.proofs.packed.lanes.sum_wide.Goals as goal

pub overflow_add-low : goal.overflow_add-low
overflow_add-low g c =
    let es = unpacked g.row.W c.args.bytes.now in
    let here : drop (8 * c.loop-group.group) es ≡ c.four.result ++ drop (8 * c.loop-group.group + 4) es = rw c.four.ensures (block_four g.row.W (8 * c.loop-group.group) (c.loop-group.group * g.row.W) 0 c.args.bytes.now (omega arith) (omega arith)) in
    adds_fit w32 c.loop-group.sums c.four.result (omega (arith, added_within 4 (8 * c.loop-group.group) (8 * c.loop-group.group + 4) es c.loop-group.sums c.four.result c.loop-group.invariant here, sum_most g.row.W 25 c.args.bytes.now c.requires.narrow))

pub overflow_add-sums : goal.overflow_add-sums
overflow_add-sums g c =
    let es = unpacked g.row.W c.args.bytes.now in
    let here : drop (8 * c.loop-group.group) es ≡ c.four.result ++ drop (8 * c.loop-group.group + 4) es = rw c.four.ensures (block_four g.row.W (8 * c.loop-group.group) (c.loop-group.group * g.row.W) 0 c.args.bytes.now (omega arith) (omega arith)) in
    let four : length c.four.result ≡ 4 = rw c.four.ensures (refl {a = 4}) in
    let low = added_more 4 (8 * c.loop-group.group) (8 * c.loop-group.group + 4) es c.loop-group.sums c.four.result c.loop-group.invariant four here in
    let there : drop (8 * c.loop-group.group + 4) es ≡ c.four-in-loop-group.result ++ drop (8 * c.loop-group.group + 4 + 4) es = rw c.four-in-loop-group.ensures (block_four g.row.W (8 * c.loop-group.group + 4) (c.loop-group.group * g.row.W + g.row.W / 2) (g.row.W % 2 * 4) c.args.bytes.now (omega arith) (omega arith)) in
    adds_fit w32 _ c.four-in-loop-group.result (omega (arith, added_within 4 (8 * c.loop-group.group + 4) (8 * c.loop-group.group + 4 + 4) es _ c.four-in-loop-group.result low there, sum_most g.row.W 25 c.args.bytes.now c.requires.narrow))

pub loop-group-preserved : goal.loop-group-preserved
loop-group-preserved g c =
    let es = unpacked g.row.W c.args.bytes.now in
    let next : 8 * (c.loop-group.group + 1) ≡ 8 * c.loop-group.group + 4 + 4 = omega arith in
    let here : drop (8 * c.loop-group.group) es ≡ c.four.result ++ drop (8 * c.loop-group.group + 4) es = rw c.four.ensures (block_four g.row.W (8 * c.loop-group.group) (c.loop-group.group * g.row.W) 0 c.args.bytes.now (omega arith) (omega arith)) in
    let four : length c.four.result ≡ 4 = rw c.four.ensures (refl {a = 4}) in
    let low = added_more 4 (8 * c.loop-group.group) (8 * c.loop-group.group + 4) es c.loop-group.sums c.four.result c.loop-group.invariant four here in
    let there : drop (8 * c.loop-group.group + 4) es ≡ c.four-in-loop-group.result ++ drop (8 * c.loop-group.group + 4 + 4) es = rw c.four-in-loop-group.ensures (block_four g.row.W (8 * c.loop-group.group + 4) (c.loop-group.group * g.row.W + g.row.W / 2) (g.row.W % 2 * 4) c.args.bytes.now (omega arith) (omega arith)) in
    let others : length c.four-in-loop-group.result ≡ 4 = rw c.four-in-loop-group.ensures (refl {a = 4}) in
    rw next (added_more 4 (8 * c.loop-group.group + 4) (8 * c.loop-group.group + 4 + 4) es _ c.four-in-loop-group.result low others there)

pub overflow_add-sums-2 : goal.overflow_add-sums-2
overflow_add-sums-2 g c =
    let es = unpacked g.row.W c.args.bytes.now in
    sum_fits w32 0 c.loop-group.sums (omega (arith, c.loop-group.invariant.total, sum_most g.row.W 25 c.args.bytes.now c.requires.narrow))

pub returns-clause-value : goal.returns-clause-value
returns-clause-value g c =
    c.from.ensures ∙ fold-sum 0 c.loop-group.sums
    ∙ added_all 4 (8 * c.loop-group.group) (unpacked g.row.W c.args.bytes.now) c.loop-group.sums c.loop-group.invariant (omega (arith, length-unpacked g.row.W c.args.bytes.now))

pub returns-clause-fits : goal.returns-clause-fits
returns-clause-fits g c =
    let whole = c.from.ensures ∙ fold-sum 0 c.loop-group.sums in
    omega (arith, whole, c.loop-group.invariant.total, sum_most g.row.W 25 c.args.bytes.now c.requires.narrow)

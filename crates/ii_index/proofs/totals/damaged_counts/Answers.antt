use Rattle.std.proofs.Common.{◌∙◌, sym}
use Rattle.ii_index.proofs.TotalsLemmas.{damage_here, damage_later, no_damage}
use Rattle.ii_index.proofs.totals.damaged_counts.Goals as goal

pub returns-in-Some : goal.returns-in-Some
returns-in-Some c =
    sym (damage_here c.args.totals.now c.loop-place.place c.index-totals-place.result c.loop-place-test.true c.index-totals-place.is c.in-Some.part c.damage_in.result c.damage_in.ensures c.in-Some.is) ∙ c.loop-place.invariant

pub loop-place-preserved : goal.loop-place-preserved
loop-place-preserved c =
    damage_later c.args.totals.now c.loop-place.place c.index-totals-place.result c.loop-place-test.true c.index-totals-place.is c.damage_in.result c.damage_in.ensures c.in-None.is ∙ c.loop-place.invariant

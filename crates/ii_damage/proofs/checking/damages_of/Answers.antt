use Rattle.std.proofs.Common.{◌≡◌, ◌≤◌, Some, length, rules}
use Rattle.std.specs.Prelude.{slice_get}
use Rattle.ii_damage.proofs.ListedLemmas.{finding_ends}
use Rattle.ii_damage.proofs.TotalsLemmas.{counting_ends, counting_next}
use Rattle.ii_damage.proofs.checking.damages_of.Goals as goal

pub loop-id-preserved : goal.loop-id-preserved
loop-id-preserved c =
    let at : slice_get c.args.schema.now c.loop-id.id ≡ Some c.get_field_entry-entry.result.now = search rules in
    counting_next c.args.schema.now c.args.files.now c.loop-id.id c.get_field_entry-entry.result.now c.loop-id.found.items c.push_field.new.found.items c.args.totals.now c.loop-id.totals c.push_field.new.totals at
    (search rules) (search rules) c.loop-id.invariant

pub returns-clause-found : goal.returns-clause-found
returns-clause-found c =
    let end : length c.args.schema.now ≤ c.loop-id.id = search rules in
    finding_ends c.args.schema.now c.args.files.now c.loop-id.id c.loop-id.found.items end c.loop-id.invariant.finding

pub returns-clause-totals : goal.returns-clause-totals
returns-clause-totals c =
    let end : length c.args.schema.now ≤ c.loop-id.id = search rules in
    counting_ends c.args.schema.now c.args.files.now c.loop-id.id c.loop-id.found.items c.args.totals.now c.loop-id.totals end c.loop-id.invariant

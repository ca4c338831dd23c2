use Rattle.std.proofs.Common.{◌≡◌, ◌==◌, arith, rules, true}
use Rattle.ii_damage.proofs.TableLemmas.{seeking_ended, seeking_here, seeking_short}
use Rattle.ii_damage.proofs.field_bodies.place_in.Goals as goal

pub returns-in_default : goal.returns-in_default
returns-in_default c = seeking_short c.args.field c.args.count c.loop-i._i c.args.table.now c.loop-i.rest.now (omega arith) c.in_default.ensures.value c.loop-i.invariant

pub returns-then-eq : goal.returns-then-eq
returns-then-eq c =
    let here : (c.in-Some.place.field == c.args.field) ≡ true = search rules in
    seeking_here c.args.field c.args.count c.loop-i._i c.args.table.now c.loop-i.rest.now c.deserialize.new.reader.now c.in-Some.place (omega arith) c.in-Some.ensures.value here c.loop-i.invariant

pub returns : goal.returns
returns c = seeking_ended c.args.field c.args.count c.loop-i._i c.args.table.now c.loop-i.rest.now (omega arith) c.loop-i.invariant

use Rattle.std.proofs.Common.{◌≡◌, ◌-◌, ◌+◌, ◌*◌, Some, drop, length, rules}
use Rattle.ii_io.specs.Numbers.{number_at}
use Rattle.ii_damage.proofs.TableLemmas.{table_places}
use Rattle.ii_damage.proofs.field_bodies.place_of.Goals as goal

pub returns : goal.returns
returns c =
    let file = c.args.file.now in
    let counted : Some (c.in-Some.count, c.deserialize.new.reader.now) ≡ number_at 4 (drop (length file - 4) file) = search rules in
    let behind : c.split_at.result.1.now ≡ drop (length file - (20 * c.in-Some.count + 4)) file = search rules in
    table_places c.args.field c.in-Some.count file c.deserialize.new.reader.now c.split_at.result.1.now c.place_in.result counted behind c.place_in.ensures

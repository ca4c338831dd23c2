use Rattle.std.proofs.Common.{refl}
use Rattle.ii_codes.proofs.WideLaneLemmas.{four_small}
use Rattle.ii_codes.proofs.packed.lanes.put_sorted_four.Goals as goal

pub running_four-sums-requires-clause-small : goal.running_four-sums-requires-clause-small
running_four-sums-requires-clause-small g c = rw c.four.ensures (four_small c.args.bytes.now c.args.at g.row.W c.args.first c.requires.narrow)

pub returns-clause-written : goal.returns-clause-written
returns-clause-written g c =
    let sums = rw c.four.ensures at c.running_four-sums.ensures in
    rw (c.requires.before, sums) at c.put_four.ensures

pub returns-clause-last : goal.returns-clause-last
returns-clause-last g c =
    let sums = rw c.four.ensures at c.running_four-sums.ensures in
    rw (c.requires.before, sums) refl

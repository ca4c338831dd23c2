use Rattle.std.proofs.Common.{arith}
use Rattle.ii_codes.proofs.WideLaneLemmas.{running_four_of, four_list}
use Rattle.ii_codes.proofs.packed.lanes.running_four.Goals as goal

pub returns : goal.returns
returns c =
    rw (four_list c.args.entries c.requires.many) (running_four_of _ _ _ _ c.args.gap
    (c.requires.small 0 (omega arith)) (c.requires.small 1 (omega arith)) (c.requires.small 2 (omega arith)) (c.requires.small 3 (omega arith)) c.requires.gap)

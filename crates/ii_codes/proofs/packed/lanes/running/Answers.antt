use Rattle.std.proofs.Common.{arith}
use Rattle.ii_codes.proofs.LaneLemmas.{running_of, eight_list}
use Rattle.ii_codes.proofs.packed.lanes.running.Goals as goal

pub returns : goal.returns
returns c =
    rw (eight_list c.args.entries c.requires.many) (running_of _ _ _ _ _ _ _ _ c.args.gap
    (c.requires.small 0 (omega arith)) (c.requires.small 1 (omega arith)) (c.requires.small 2 (omega arith)) (c.requires.small 3 (omega arith))
    (c.requires.small 4 (omega arith)) (c.requires.small 5 (omega arith)) (c.requires.small 6 (omega arith)) (c.requires.small 7 (omega arith)) c.requires.gap)

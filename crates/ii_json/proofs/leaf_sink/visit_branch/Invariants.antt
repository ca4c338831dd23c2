use Rattle.std.proofs.Common.{◌+◌, ◌++◌, reverse}
use Rattle.ii_json.specs.Branches.{branch_leaves, branch_nodes, leaves_outside}
use Rattle.ii_json.proofs.BranchLemmas.{IsBelow, outer_nodes}
use Rattle.ii_json.proofs.LeafVisitLemmas.{IsHanding}
use Rattle.ii_json.proofs.leaf_sink.visit_branch.Given as goal

abbrev pub invariant-loop-part : goal.invariant-loop-part
invariant-loop-part g l =
    IsBelow l.initial.writer l.writer (reverse l.outer.items)
    × IsHanding g.S.LeafSink.constant g.S.LeafSink.ready g.S.LeafSink.holds g.S.LeafSink.fault l.initial.sink l.sink (branch_leaves l.initial.writer l.initial.current) (branch_leaves l.writer l.current ++ leaves_outside l.writer (reverse l.outer.items))

abbrev pub decreases-loop-part : goal.decreases-loop-part
decreases-loop-part g l = 1 + branch_nodes l.current + outer_nodes (reverse l.outer.items)

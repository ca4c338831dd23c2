use Rattle.std.specs.Prelude.{◌≤◌, map}
use Rattle.std.specs.Vec.{vec_len}
use Rattle.ii_base.specs.JsonWeight.{weight, children_weight}
use Rattle.ii_base.proofs.json_value.last_branch.Given as goal

abbrev pub invariant-loop-child : goal.invariant-loop-child
invariant-loop-child l = children_weight (map weight l.items.items) ≤ children_weight (map weight l.initial.items.items)

abbrev pub decreases-loop-child : goal.decreases-loop-child
decreases-loop-child l = vec_len l.items

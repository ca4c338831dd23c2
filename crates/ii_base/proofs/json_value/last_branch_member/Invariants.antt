use Rattle.std.specs.Prelude.{◌≤◌}
use Rattle.std.specs.Vec.{vec_len}
use Rattle.ii_base.specs.JsonWeight.{member_weights, children_weight}
use Rattle.ii_base.proofs.json_value.last_branch_member.Given as goal

abbrev pub invariant-loop-key : goal.invariant-loop-key
invariant-loop-key l = children_weight (member_weights l.members.items) ≤ children_weight (member_weights l.initial.members.items)

abbrev pub decreases-loop-key : goal.decreases-loop-key
decreases-loop-key l = vec_len l.members

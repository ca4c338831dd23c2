use Rattle.std.proofs.Common.{◌≤◌, ◌+◌, ◌++◌, ◌∷◌, [], arith}
use Rattle.ii_base.specs.JsonWeight.{weight, children_weight, held_weights}
use Rattle.ii_base.proofs.WeightLemmas.{weighs_twice, weighs_sum}
use Rattle.ii_base.proofs.json_value.JsonValue.reduced.Goals as goal

-- the only child is left
pub returns-in_default : goal.returns-in_default
returns-in_default c = omega (arith, c.in_ok-parent.ensures.taken, weighs_sum (held_weights c.in_ok-parent.parent) (weight c.in_ok-parent.child))

-- the last child is let go
pub returns-in-None : goal.returns-in-None
returns-in-None c =
    let parent = held_weights c.in-Some.parent in
    let child = weight c.in_ok-parent.child in
    let taken : 1 + children_weight (parent ++ child ∷ []) ≤ weight c.args.self = rw c.in-Some.ensures.same c.in_ok-parent.ensures.taken in
    omega (arith, taken, weighs_twice parent child c.in-Some.ensures.not_empty, c.closed.ensures, c.opened-2.ensures.positive)

-- the last child and its parent change places
pub returns-in-Some-opened : goal.returns-in-Some-opened
returns-in-Some-opened c =
    let parent = held_weights c.in-Some.parent in
    let child = weight c.in_ok-parent.child in
    let branch = held_weights c.in-Some-opened.branch in
    let grandchild = weight c.in-Some-opened.grandchild in
    let taken : 1 + children_weight (parent ++ child ∷ []) ≤ weight c.args.self = rw c.in-Some.ensures.same c.in_ok-parent.ensures.taken in
    omega (arith, taken, weighs_twice parent child c.in-Some.ensures.not_empty, weighs_twice parent grandchild c.in-Some.ensures.not_empty, c.in-Some-opened.ensures.taken, weighs_sum branch grandchild, c.closed_with.ensures, c.closed_below.ensures)

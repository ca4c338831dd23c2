use Rattle.std.proofs.Common.{◌-◌, Bool, List, ℕ, length, take, string_bytes, ap, ◌∙◌}
use Rattle.ii_base.specs.Paths.{IsPathOf, PathState, cut_at}
use Rattle.ii_base.proofs.PathLemmas.{cut_holds, cut_is, ends_at, may_be_cut, popped}
use Rattle.ii_base.proofs.json_path_writer.JsonPathWriter.pop.Goals as goal

pub truncate-requires : goal.truncate-requires
truncate-requires c =
    let before = ends_at _ _ _ c.pop.new.self.items c.in-Some.start c.self.invariant c.in-Some.ensures.items in
    λ within. may_be_cut _ _ _ _ _ c.saturating_sub.result before c.saturating_sub.ensures

shorter : (c : goal.After-truncate) → IsPathOf (take (length (cut_at (string_bytes c.self.inside.path) c.self.inside.starts.items) - 1) (cut_at (string_bytes c.self.inside.path) c.self.inside.starts.items)) (string_bytes c.truncate.new.self) c.pop.new.self.items
shorter c =
    let before = ends_at _ _ _ c.pop.new.self.items c.in-Some.start c.self.invariant c.in-Some.ensures.items in
    rw (c.truncate.ensures.bytes, c.saturating_sub.ensures) (popped _ _ _ _ _ before)

pub invariant_of-self : goal.invariant_of-self
invariant_of-self c = cut_holds _ _ _ (shorter c)

pub returns-in-Some : goal.returns-in-Some
returns-in-Some c =
    let is = cut_is _ _ _ (shorter c) in
    let here : Bool → List (List ℕ) → PathState = λ e s. record { segments = s; expand_dots = e } in
    let fewer : PathState → PathState = λ p. record { segments = take (length p.segments - 1) p.segments; expand_dots = p.expand_dots } in
    ap (here c.self.inside.expand_dots) is ∙ ap fewer c.self.view_is

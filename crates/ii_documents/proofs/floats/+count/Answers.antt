use Rattle.std.proofs.Common.{◌≡◌, [], ap, arith, drop, rules}
use Rattle.std.proofs.lemmas.List.{drop_all}
use Rattle.serde_json.specs.View.{items_view, members_view}
use Rattle.ii_documents.specs.Floats.{items_floats, members_floats}
use Rattle.ii_documents.proofs.floats.+count.Goals as goal

pub count_in_items-returns : goal.count_in_items-returns
count_in_items-returns t c =
    let l = c.loop-item in
    let vs = c.deref-item-items.result.now in
    let none : drop l.item-index vs ≡ [] = drop_all l.item-index vs (search rules) in
    let left : items_floats (items_view (drop l.item-index vs)) ≡ 0 = ap (λ xs. items_floats (items_view xs)) none in
    let all : items_floats (items_view vs) ≡ items_floats (items_view c.args.items.now.items) = ap (λ xs. items_floats (items_view xs)) c.deref-item-items.ensures.value in
    omega (arith, l.invariant.0, l.invariant.1, left, all)

pub count_in_members-returns : goal.count_in_members-returns
count_in_members-returns t c =
    let l = c.loop-key in
    let left : members_floats (members_view l._key-iterator) ≡ 0 = ap (λ es. members_floats (members_view es)) c.in-None.ensures.steps.0 in
    omega (arith, l.invariant.0, l.invariant.1, left)

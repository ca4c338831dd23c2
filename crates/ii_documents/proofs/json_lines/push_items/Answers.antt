use Rattle.std.proofs.Common.{◌+◌, ◌∷◌, ◌∙◌, ap, drop, rules, subst, sym}
use Rattle.std.proofs.lemmas.List.{drop_all, drop_more}
use Rattle.serde_json.specs.Data.{item, no_items}
use Rattle.serde_json.specs.View.{items_view, view}
use Rattle.ii_documents.specs.JsonLines.{items_calls}
use Rattle.ii_documents.proofs.AddingLemmas.{IsAdding, ends, goes_on}
use Rattle.ii_documents.proofs.LineLemmas.{items_first}
use Rattle.ii_documents.proofs.json_lines.push_items.Goals as goal

pub returns : goal.returns
returns c e found indexed =
    let l = c.loop-item in
    let items = c.deref-item-items in
    let none = drop_all l.item-index items.result.now (search rules) in
    let left = ap (λ vs. items_calls c.args.floats c.args.doc c.args.field e (items_view vs)) none in
    let all = ap (λ vs. items_calls c.args.floats c.args.doc c.args.field e (items_view vs)) items.ensures.value in
    let end = ends c.args.schema.now c.args.doc c.args.calls.now.items l.calls.items _
    (subst (λ rest. IsAdding c.args.schema.now c.args.doc c.args.calls.now.items l.calls.items (items_calls c.args.floats c.args.doc c.args.field e (items_view items.result.now)) rest) left (l.invariant e found indexed)) in
    (end.0, sym all ∙ end.1, end.2)

pub loop-item-preserved : goal.loop-item-preserved
loop-item-preserved c e found indexed =
    let l = c.loop-item in
    let items = c.deref-item-items.result.now in
    let x = c.item-item.result in
    let of = items_calls c.args.floats c.args.doc c.args.field e in
    let here = ap items_view (drop_more items l.item-index x c.loop-item-test.true ∙ ap (λ y. y ∷ drop (l.item-index + 1) items) (sym c.item-item.is)) in
    let t = subst (λ vs. IsAdding c.args.schema.now c.args.doc c.args.calls.now.items l.calls.items (of (items_view items)) (of vs)) here (l.invariant e found indexed) in
    let split = subst (λ r. IsAdding c.args.schema.now c.args.doc c.args.calls.now.items l.calls.items (of (items_view items)) r) (items_first c.args.floats c.args.doc c.args.field e (view x) (items_view (drop (l.item-index + 1) items))) t in
    let done = c.in_ok-push_value.ensures e found indexed in
    goes_on c.args.schema.now c.args.doc c.args.calls.now.items l.calls.items c.push_value.new.calls.items (of (items_view items)) (of (item (view x) no_items)) (of (items_view (drop (l.item-index + 1) items))) split done.0 done.1 done.2

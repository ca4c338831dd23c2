use Rattle.std.proofs.Common.{◌≡◌, ◌∙◌, map, ap, append-nil, rules, sym}
use Rattle.std.proofs.lemmas.List.{take_all}
use Rattle.serde_json.specs.View.{view}
use Rattle.ii_base.specs.Json.{items_from as items_made, json_of}
use Rattle.ii_documents.specs.Floats.{without_floats}
use Rattle.ii_documents.specs.JsonValues.{json_from}
use Rattle.ii_documents.proofs.JsonLemmas.{given_members, given_pair, items_are, made_members, made_pair, of_pairs}
use Rattle.ii_documents.proofs.json_values.+json.Goals as goal

pub json_items-returns : goal.json_items-returns
json_items-returns t c =
    let taken = take_all c.loop-item.item-index c.deref-item-items.result.now (search rules) in
    let all : map json_of c.loop-item.values.items ≡ map (λ v. json_from (without_floats (view v))) c.args.items.now.items =
    c.loop-item.invariant ∙ ap (λ vs. map (λ v. json_from (without_floats (view v))) vs) (taken ∙ c.deref-item-items.ensures.value) in
    ap items_made all ∙ items_are c.args.items.now.items

pub json_members-returns : goal.json_members-returns
json_members-returns t c =
    let all : map made_pair c.loop-key.values.items ≡ map given_pair c.args.members.now.entries =
    sym (append-nil (map made_pair c.loop-key.values.items)) ∙ rw c.in-None.ensures.steps.0 at c.loop-key.invariant in
    sym (made_members c.loop-key.values.items) ∙ ap of_pairs all ∙ given_members c.args.members.now.entries

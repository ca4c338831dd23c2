use Rattle.std.proofs.Common.{◌≡◌, ◌+◌, ◌∙◌, [], Some, ap, arith, drop, rules, sum_by}
use Rattle.std.proofs.lemmas.List.{drop_all}
use Rattle.std.proofs.lemmas.List.Sums.{sum_by-cons}
use Rattle.std.specs.List.{slice_get}
use Rattle.std.specs.Option.{option_map}
use Rattle.serde_json.specs.Find.{get_member}
use Rattle.serde_json.specs.View.{members_view, view}
use Rattle.ii_base.specs.Schema.{SchemaEntry}
use Rattle.ii_documents.specs.Floats.{counted, field_floats}
use Rattle.ii_documents.proofs.AddingLemmas.{drop_at}
use Rattle.ii_documents.proofs.LineLemmas.{map_get}
use Rattle.ii_documents.proofs.floats.fields_floats.Goals as goal

pub loop-id-preserved : goal.loop-id-preserved
loop-id-preserved c =
    let l = c.loop-id in
    let schema = c.args.schema.now in
    let ms = members_view c.args.members.now.entries in
    let floats = λ (e : SchemaEntry). field_floats e (get_member e.name ms) in
    let e = c.get_field_entry-entry.result.now in
    let found : slice_get schema l.id ≡ Some e = search rules in
    let value : option_map (λ v. view v.now) c.get.result ≡ get_member e.name ms = map_get c.get.result e.name c.args.members.now.entries (search rules) in
    let more : c.count_field-count.result ≡ counted (l.count + floats e) = c.count_field-count.ensures ∙ ap (λ v. counted (l.count + field_floats e v)) value in
    let first : sum_by floats (drop l.id schema) ≡ floats e + sum_by floats (drop (l.id + 1) schema) = ap (sum_by floats) (drop_at schema l.id e found) ∙ sum_by-cons floats e (drop (l.id + 1) schema) in
    (omega (arith, more), omega (arith, l.invariant.1, more, first))

pub returns : goal.returns
returns c =
    let l = c.loop-id in
    let floats = λ (e : SchemaEntry). field_floats e (get_member e.name (members_view c.args.members.now.entries)) in
    let none : drop l.id c.args.schema.now ≡ [] = drop_all l.id c.args.schema.now (search rules) in
    let left : sum_by floats (drop l.id c.args.schema.now) ≡ 0 = ap (sum_by floats) none in
    omega (arith, l.invariant.0, l.invariant.1, left)

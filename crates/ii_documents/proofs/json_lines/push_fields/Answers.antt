use Rattle.std.proofs.Common.{◌≡◌, ◌+◌, Some, drop, rules, subst}
use Rattle.std.specs.List.{slice_get}
use Rattle.std.specs.Option.{option_map}
use Rattle.std.proofs.lemmas.Result.{err_from_is_err_and}
use Rattle.serde_json.specs.Find.{get_member}
use Rattle.serde_json.specs.View.{members_view, view}
use Rattle.ii_documents.specs.JsonLines.{AddsAs, TellsOfLine, field_calls, fields_calls, told_of_line}
use Rattle.ii_documents.proofs.AddingLemmas.{IsAdding, drop_at, goes_on, stops}
use Rattle.ii_documents.proofs.LineLemmas.{fields_first, map_get}
use Rattle.ii_documents.proofs.json_lines.push_fields.Goals as goal

pub returns-in_err-push_field : goal.returns-in_err-push_field
returns-in_err-push_field c =
    let l = c.loop-id in
    let schema = c.args.schema.now in
    let doc = c.args.doc in
    let floats = c.args.floats in
    let ms = members_view c.args.members.now.entries in
    let e = c.get_field_entry.result.now in
    let found : slice_get schema l.id ≡ Some e = search rules in
    let value : option_map (λ v. view v.now) c.get-value.result ≡ get_member e.name ms = map_get c.get-value.result e.name c.args.members.now.entries (search rules) in
    let step = fields_first floats doc ms l.id (drop l.id schema) e (drop (l.id + 1) schema) (drop_at schema l.id e found) in
    let t = subst (λ r. IsAdding schema doc c.args.calls.now.items l.calls.items (fields_calls floats doc ms 0 schema) r) step l.invariant in
    let p = err_from_is_err_and c.from_residual.result c.from_residual.ensures.1 in
    let tells : TellsOfLine (told_of_line c.in_err-push_field.field-0.0) (field_calls floats doc l.id e (get_member e.name ms)) =
    subst (λ v. TellsOfLine (told_of_line c.in_err-push_field.field-0.0) (field_calls floats doc l.id e v)) value (search rules) in
    rw (p.1, p.2) (stops schema doc c.args.calls.now.items l.calls.items c.push_field.new.calls.items (fields_calls floats doc ms 0 schema) (field_calls floats doc l.id e (get_member e.name ms)) (fields_calls floats doc ms (l.id + 1) (drop (l.id + 1) schema)) t c.in_err-push_field.field-0.0 tells)

pub loop-id-preserved : goal.loop-id-preserved
loop-id-preserved c =
    let l = c.loop-id in
    let schema = c.args.schema.now in
    let doc = c.args.doc in
    let floats = c.args.floats in
    let ms = members_view c.args.members.now.entries in
    let e = c.get_field_entry.result.now in
    let found : slice_get schema l.id ≡ Some e = search rules in
    let value : option_map (λ v. view v.now) c.get-value.result ≡ get_member e.name ms = map_get c.get-value.result e.name c.args.members.now.entries (search rules) in
    let step = fields_first floats doc ms l.id (drop l.id schema) e (drop (l.id + 1) schema) (drop_at schema l.id e found) in
    let t = subst (λ r. IsAdding schema doc c.args.calls.now.items l.calls.items (fields_calls floats doc ms 0 schema) r) step l.invariant in
    let added : AddsAs schema doc l.calls.items c.push_field.new.calls.items c.push_field.result (field_calls floats doc l.id e (get_member e.name ms)) =
    subst (λ v. AddsAs schema doc l.calls.items c.push_field.new.calls.items c.push_field.result (field_calls floats doc l.id e v)) value (search rules) in
    let done = subst (λ r. AddsAs schema doc l.calls.items c.push_field.new.calls.items r (field_calls floats doc l.id e (get_member e.name ms))) c.in_ok-push_field.was added in
    goes_on schema doc c.args.calls.now.items l.calls.items c.push_field.new.calls.items (fields_calls floats doc ms 0 schema) (field_calls floats doc l.id e (get_member e.name ms)) (fields_calls floats doc ms (l.id + 1) (drop (l.id + 1) schema)) t done.0 done.1 done.2

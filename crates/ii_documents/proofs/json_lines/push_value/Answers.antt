use Rattle.std.proofs.Common.{◌≡◌}
use Rattle.serde_json.specs.View.{view}
use Rattle.ii_documents.proofs.LineLemmas.{adds_value, same_entry}
use Rattle.ii_documents.proofs.json_lines.push_value.Goals as goal

pub returns : goal.returns
returns c e found indexed =
    let is : c.get_field_entry.result.now ≡ e = same_entry c.args.schema.now c.args.field _ e c.get_field_entry.ensures found in
    adds_value c.args.schema.now c.args.floats c.args.doc c.args.field c.args.calls.now.items c.push.new.self.items e (view c.args.value.now) c.in_ok-call.call found indexed
    (rw is at c.in_ok-call.ensures.gives) (rw is at c.in_ok-call.ensures.typed) c.in_ok-push.ensures.items

use Rattle.serde_json.specs.View.{members_view}
use Rattle.ii_documents.proofs.UnknownLemmas.{named_calls}
use Rattle.ii_documents.proofs.json_lines.read_calls.Goals as goal

pub returns-in-Ignore-clause-gives : goal.returns-in-Ignore-clause-gives
returns-in-Ignore-clause-gives c =
    let same = named_calls c.args.schema.now c.args.floats c.args.doc (members_view c.args.members.now.entries) in
    rw (c.in-Ignore.is, same) c.fields_calls.ensures.gives

use Rattle.std.proofs.Common.{string_bytes}
use Rattle.serde_json.specs.View.{view}
use Rattle.ii_documents.specs.LineFields.{chosen, names_of}
use Rattle.ii_documents.proofs.LineFieldsLemmas.{goes_on, is_done}
use Rattle.ii_documents.proofs.line_fields.object_text.Goals as goal

pub loop-name-preserved : goal.loop-name-preserved
loop-name-preserved c =
    goes_on c.args.nulls (view c.args.value.now) c.args.names.now c.loop-name.name-index _ c.loop-name.has_some c.in_ok-has_some.has_some (string_bytes c.loop-name.text) (string_bytes c.push_member.new.text)
    (chosen c.args.nulls (names_of c.args.names.now) (view c.args.value.now)) c.loop-name-test.true (rw (c.unless_null-found.ensures, c.get.ensures) at c.in_ok-has_some.ensures.added) c.loop-name.invariant

pub returns-clause-fields : goal.returns-clause-fields
unfolding lib.Utf8.encode
returns-clause-fields c =
    let done = is_done c.args.nulls (view c.args.value.now) c.args.names.now c.loop-name.name-index c.loop-name.has_some (string_bytes c.loop-name.text) (chosen c.args.nulls (names_of c.args.names.now) (view c.args.value.now)) c.loop-name-test.false c.loop-name.invariant in
    rw c.in_ok-push-2.ensures.bytes done

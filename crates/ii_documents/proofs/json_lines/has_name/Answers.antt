use Rattle.std.proofs.Common.{rules}
use Rattle.ii_documents.proofs.AddingLemmas.{drop_at}
use Rattle.ii_documents.proofs.json_lines.has_name.Goals as goal

pub returns-then-eq : goal.returns-then-eq
returns-then-eq c =
    let here = drop_at c.args.schema.now c.loop-id.id c.get_field_entry-entry.result.now (search rules) in
    rw (c.loop-id.invariant, here) (search rules)

pub loop-id-preserved : goal.loop-id-preserved
loop-id-preserved c =
    let here = drop_at c.args.schema.now c.loop-id.id c.get_field_entry-entry.result.now (search rules) in
    rw (c.loop-id.invariant, here) (search rules)

use Rattle.std.proofs.Common.{rules}
use Rattle.ii_documents.proofs.LineLemmas.{known, stranger}
use Rattle.ii_documents.proofs.json_lines.unknown_key.Goals as goal

pub returns-then-not-has_name : goal.returns-then-not-has_name
returns-then-not-has_name c =
    let here = stranger c.args.schema.now (c.in-Some.key.now, c.in-Some.field-0-1.now) c.next.new.self (search rules) in
    rw (c.loop-key.invariant, c.in-Some.ensures.steps, here) (search rules)

pub loop-key-preserved : goal.loop-key-preserved
loop-key-preserved c =
    let here = known c.args.schema.now (c.in-Some.key.now, c.in-Some.field-0-1.now) c.next.new.self (search rules) in
    rw (c.loop-key.invariant, c.in-Some.ensures.steps) here

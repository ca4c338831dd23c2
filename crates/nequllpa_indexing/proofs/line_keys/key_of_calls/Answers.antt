use Rattle.std.proofs.Common.{◌∙◌, None, ap, sym}
use Rattle.nequllpa_indexing.proofs.KeyLemmas.{key_found, key_of_only}
use Rattle.nequllpa_indexing.proofs.line_keys.key_of_calls.Goals as goal

pub returns-in-Some-clause-key : goal.returns-in-Some-clause-key
returns-in-Some-clause-key g c =
    let analyze = g.F.FieldAnalyzers.words c.args.analyzers.now in
    key_found analyze c.args.field c.args.calls.now c.in-Some.call.now _ c.key_of_call.result c.in-Some.ensures (c.analyzer.ensures ∙ ap analyze c.field.ensures) c.key_of_call.ensures.key

pub returns-in-None-clause-key : goal.returns-in-None-clause-key
returns-in-None-clause-key g c = λ entries. sym (key_of_only (g.F.FieldAnalyzers.words c.args.analyzers.now) c.args.field entries c.args.calls.now None c.in-None.ensures)

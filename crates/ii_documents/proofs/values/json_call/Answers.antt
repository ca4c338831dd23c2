use Rattle.std.proofs.Common.{rules, sym, ◌∙◌}
use Rattle.serde_json.specs.View.{view}
use Rattle.ii_documents.proofs.FloatLemmas.{json_refused, json_taken}
use Rattle.ii_documents.proofs.values.json_call.Goals as goal

pub returns-then-is_refused-clause-gives : goal.returns-then-is_refused-clause-gives
returns-then-is_refused-clause-gives c = λ dots. rw (json_refused c.args.floats dots (view c.args.value.now) (sym c.is_refused.ensures ∙ c.if-is_refused.true)) (search rules)

pub returns-clause-gives : goal.returns-clause-gives
returns-clause-gives c = λ dots. rw (json_taken c.args.floats dots (view c.args.value.now) (sym c.is_refused.ensures ∙ c.if-is_refused.false)) (search rules)

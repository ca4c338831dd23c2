use Rattle.ii_base.specs.Schema.{SchemaEntry}
use Rattle.ii_definitions.specs.JsonKeys.{is_json}
use Rattle.ii_postings_writer.proofs.SchemaItems.{all_made}
use Rattle.ii_postings_writer.proofs.postings_writer.json_fields.Goals as goal

pub returns-clause-ok : goal.returns-clause-ok
returns-clause-ok c = all_made (λ (e : SchemaEntry). is_json e.value_type) c.loop-field.flags.items c.loop-field._field-iterator c.args.schema.now c.in-None.ensures.steps.0 c.loop-field.invariant

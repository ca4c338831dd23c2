use Rattle.ii_base.specs.Schema.{SchemaEntry}
use Rattle.ii_indexing.specs.OpenPaths.{no_paths}
use Rattle.ii_postings_writer.proofs.SchemaItems.{all_made}
use Rattle.ii_indexing.proofs.open_paths.OpenPaths.new.Goals as goal

pub returns-clause-ok : goal.returns-clause-ok
returns-clause-ok c = all_made (λ (e : SchemaEntry). no_paths) c.loop-field.fields.items c.loop-field._field-iterator c.args.schema.now c.in-None.ensures.steps.0 c.loop-field.invariant

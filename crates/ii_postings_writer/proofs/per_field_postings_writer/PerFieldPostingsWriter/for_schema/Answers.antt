use Rattle.ii_postings_writer.proofs.SchemaItems.{all_made}
use Rattle.std.proofs.Common.{map}
use Rattle.ii_postings_writer.specs.PostingsWriter.{writer_of}
use Rattle.ii_postings_writer.specs.PostingsWriterKind.{state_of_kind}
use Rattle.ii_postings_writer.proofs.per_field_postings_writer.PerFieldPostingsWriter.for_schema.Goals as goal

pub returns-clause-ok : goal.returns-clause-ok
returns-clause-ok c = all_made writer_of (map state_of_kind c.loop-field.writers.items) c.loop-field._field-iterator c.args.schema.now c.in-None.ensures.steps.0 c.loop-field.invariant

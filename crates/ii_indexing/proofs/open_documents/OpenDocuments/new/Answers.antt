use Rattle.std.proofs.Common.{refl}
use Rattle.ii_base.specs.Schema.{SchemaEntry}
use Rattle.ii_indexing.specs.OpenDocuments.{empty_document}
use Rattle.ii_indexing.proofs.FieldLists.{short_norms}
use Rattle.ii_postings_writer.proofs.SchemaItems.{all_made}
use Rattle.ii_indexing.proofs.open_documents.OpenDocuments.new.Goals as goal

pub invariant_of-result : goal.invariant_of-result
invariant_of-result c field d is = short_norms c.args.schema.now c.in_ok-for_schema.field-0 field d.doc c.in_ok-for_schema.ensures.empty

pub returns-clause-ok : goal.returns-clause-ok
returns-clause-ok c =
    let made = all_made (λ (e : SchemaEntry). empty_document 0) c.loop-field.documents.items c.loop-field._field-iterator c.args.schema.now c.in-None.ensures.steps.0 c.loop-field.invariant in
    rw (made, c.in_ok-for_schema.ensures.empty) refl

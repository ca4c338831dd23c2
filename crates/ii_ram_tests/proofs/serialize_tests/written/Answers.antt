use Rattle.std.proofs.Common.{[], sym, subst}
use Rattle.ii_recorder.specs.IndexBodies.{IndexBodiesState}
use Rattle.ii_postings_writer.specs.FieldParts.{HasFields}
use Rattle.ii_indexing.proofs.WrittenFiles.{begun_fields}
use Rattle.ii_ram_tests.proofs.serialize_tests.written.Goals as goal

pub serialize_postings-serialized-requires-clause-fresh : goal.serialize_postings-serialized-requires-clause-fresh
serialize_postings-serialized-requires-clause-fresh c =
    subst (λ (b : IndexBodiesState). HasFields c.open-serializer.result.entries b b []) (sym c.open-serializer.ensures.bodies) (begun_fields c.open-serializer.result.entries c.writer.result c.writer-2.result c.writer-3.result)

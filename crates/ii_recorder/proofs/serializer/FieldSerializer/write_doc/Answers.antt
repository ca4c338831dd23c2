use Rattle.std.proofs.Common.{arith}
use Rattle.ii_recorder.proofs.Documents.{few_documents}
use Rattle.ii_recorder.proofs.serializer.FieldSerializer.write_doc.Goals as goal

pub overflow_add-index : goal.overflow_add-index
overflow_add-index g c = let few = few_documents c.index-inside.inside.0.1.1.0.postings.docs c.index-inside.invariant.1 in omega arith

-- What the files of an index have after fields were written.
use Rattle.std.proofs.Common.{List}
use Rattle.ii_io.proofs.WriteSteps.{wrote_grows}
use Rattle.ii_base.specs.Schema.{SchemaEntry}
use Rattle.ii_recorder.specs.IndexBodies.{AllGrow, IndexBodiesState}
use Rattle.ii_postings_writer.specs.FieldParts.{FieldPart, HasFields}

pub fields_grow : (entries : List SchemaEntry) (a b : IndexBodiesState) (fs : List FieldPart) → HasFields entries a b fs → AllGrow a b
fields_grow entries a b fs h = record {
  terms = wrote_grows a.terms.writer b.terms.writer _ h.terms.writer;
  postings = wrote_grows a.postings.writer b.postings.writer _ h.postings.writer;
  positions = wrote_grows a.positions.writer b.positions.writer _ h.positions.writer;
}

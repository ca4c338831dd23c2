use Rattle.std.proofs.Common.{◌<◌, arith, length, ap}
use Rattle.std.proofs.lemmas.List.{length-map}
use Rattle.ii_postings_writer.specs.PostingsWriterKind.{state_of_kind}
use Rattle.ii_postings_writer.proofs.WriterLists.{writer_at}
use Rattle.ii_postings_writer.proofs.per_field_postings_writer.PerFieldPostingsWriter.get_for_field.Goals as goal

pub returns : goal.returns
returns c =
    let writers = c.self.inside.writers.items in
    let at = c.field_id.ensures in
    let low : c.field_id.result < length writers = omega (arith, at, c.requires, length-map writers state_of_kind, ap length c.self.view_is) in
    rw (← at) (writer_at writers c.args.self.now c.self.view_is c.field_id.result c.index.result.now low c.index.ensures)

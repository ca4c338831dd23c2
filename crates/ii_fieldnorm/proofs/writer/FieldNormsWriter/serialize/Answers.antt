use Rattle.ii_io.specs.Composite.{table_bytes}
use Rattle.ii_io.specs.CompositeWrite.{places_of}
use Rattle.ii_fieldnorm.proofs.WrittenNorms.{closing, refused, wrote_norms}
use Rattle.ii_fieldnorm.proofs.writer.FieldNormsWriter.serialize.Goals as goal

pub returns-in-Ok-clause-written : goal.returns-in-Ok-clause-written
returns-in-Ok-clause-written g c =
    λ initial bodies has. rw (← c.self.view_is) (closing c.args.serializer c.write_buffers-written.new.serializer c.close-writer.result.0 initial c.self.inside.buffers.items bodies has c.close-writer.result.1 (rw c.deref.ensures.value at c.in-Ok.ensures.adds) (rw c.deref.ensures.value at c.in-Ok.ensures.written) c.close-writer.ensures.written)

pub returns-in-Ok-clause-norms : goal.returns-in-Ok-clause-norms
returns-in-Ok-clause-norms g c =
    λ initial bodies has fields.
    let unwritten = rw (← c.self.view_is) at c.requires.unwritten in
    rw (← c.self.view_is) (wrote_norms c.args.serializer c.write_buffers-written.new.serializer c.close-writer.result.0 initial c.self.inside.buffers.items bodies has c.self.invariant fields unwritten c.close-writer.result.1 (table_bytes (places_of c.write_buffers-written.new.serializer)) (rw c.deref.ensures.value at c.in-Ok.ensures.adds) (rw c.deref.ensures.value at c.in-Ok.ensures.written) c.close-writer.ensures.written c.close-writer.ensures.bodies)

pub returns-in-Err-clause-written : goal.returns-in-Err-clause-written
returns-in-Err-clause-written g c =
    λ initial bodies has. rw (← c.self.view_is) (refused c.args.serializer c.write_buffers-written.new.serializer c.close-writer.result.0 initial c.self.inside.buffers.items bodies has c.in-Err.fault (table_bytes (places_of c.write_buffers-written.new.serializer)) c.close-writer.result.1 (rw c.deref.ensures.value at c.in-Err.ensures.written) c.close-writer.ensures.written)

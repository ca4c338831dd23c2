use Rattle.std.proofs.Common.{◌≡◌, ◌∙◌, [], List, ℕ, Result, Some, Err, ap, arith, false, refl, subst, sym}
use Rattle.std.proofs.lemmas.List.{length-map}
use Rattle.std.specs.Prelude.{OnOk}
use Rattle.ii_io.specs.Composite.{table_bytes}
use Rattle.ii_io.specs.CompositeWrite.{CompositeWriteState, HasBodies, places_of}
use Rattle.ii_io.specs.CountingWriter.{CountingWriterState, WritesInMemory}
use Rattle.ii_io.specs.declared.faults.Fault.{Fault}
use Rattle.ii_fieldnorm.specs.Buffers.{WroteNorms, rest_of_file}
use Rattle.ii_fieldnorm.proofs.WrittenNorms.{closing, refused, wrote_norms}
use Rattle.ii_counts.specs.Counts.{written_counts}
use Rattle.ii_counts.specs.CountsWriter.{row_buffers}
use Rattle.ii_counts.proofs.RowLaws.{all_unwritten, begun_bodies, file_fails, file_holds}
use Rattle.ii_counts.proofs.writer.rows_file.Goals as goal

pub returns-in-Ok-closed-clause-holds : goal.returns-in-Ok-closed-clause-holds
returns-in-Ok-closed-clause-holds c =
    let w = c.wrap-writer.result in
    let a = c.from_write-serializer.result in
    let b = c.write_rows-written.new.serializer in
    let new = c.close-writer.result.0 in
    let rows = c.args.rows.now in
    let bs = row_buffers rows in
    let begun = subst (λ (s : CompositeWriteState). HasBodies w s []) (sym c.from_write-serializer.ensures) (begun_bodies w) in
    let fresh : a.starts ≡ [] = ap (λ (s : CompositeWriteState). s.starts) c.from_write-serializer.ensures in
    let wrote : WroteNorms w new [] bs = subst (λ (r : Result (Unit {0}) Fault). OnOk r (WroteNorms w new [] bs)) c.in-Ok-closed.is
    (wrote_norms a b new w bs [] begun (omega (arith, c.requires, length-map rows (λ r. Some (written_counts r)))) refl (λ running. all_unwritten a bs fresh) c.close-writer.result.1 (table_bytes (places_of b)) c.in-Ok.ensures.adds c.in-Ok.ensures.written c.close-writer.ensures.written c.close-writer.ensures.bodies) in
    let empty : w.contents ≡ Some [] = ap (λ (s : CountingWriterState). s.contents) c.wrap-writer.ensures ∙ ap (λ (xs : List ℕ). Some xs) c.new.ensures.items in
    file_holds w new rows c.finish.result.items empty (sym c.finish.ensures) c.in-Ok.ensures.read wrote

pub returns-in-Err-clause-fault : goal.returns-in-Err-clause-fault
returns-in-Err-clause-fault c =
    let w = c.wrap-writer.result in
    let a = c.from_write-serializer.result in
    let b = c.write_rows-written.new.serializer in
    let new = c.close-writer.result.0 in
    let bs = row_buffers c.args.rows.now in
    let begun = subst (λ (s : CompositeWriteState). HasBodies w s []) (sym c.from_write-serializer.ensures) (begun_bodies w) in
    let how = refused a b new w bs [] begun c.in-Err.fault (table_bytes (places_of b)) c.close-writer.result.1 c.in-Err.ensures.written c.close-writer.ensures.written in
    let at = subst (λ (s : CompositeWriteState). WritesInMemory s.closed s.writer new (rest_of_file [] bs) (Err c.in-Err.fault)) c.from_write-serializer.ensures how in
    rw c.in_memory.ensures (file_fails w new c.args.rows.now c.in-Err.fault (ap (λ (s : CountingWriterState). s.written_bytes) c.wrap-writer.ensures) (ap (λ (s : CountingWriterState). s.failed_calls) c.wrap-writer.ensures) at)

pub returns-in-Err-closed-clause-fault : goal.returns-in-Err-closed-clause-fault
returns-in-Err-closed-clause-fault c =
    let w = c.wrap-writer.result in
    let a = c.from_write-serializer.result in
    let b = c.write_rows-written.new.serializer in
    let new = c.close-writer.result.0 in
    let bs = row_buffers c.args.rows.now in
    let begun = subst (λ (s : CompositeWriteState). HasBodies w s []) (sym c.from_write-serializer.ensures) (begun_bodies w) in
    let how = closing a b new w bs [] begun c.close-writer.result.1 c.in-Ok.ensures.adds c.in-Ok.ensures.written c.close-writer.ensures.written in
    let at = subst (λ (s : CompositeWriteState). WritesInMemory s.closed s.writer new (rest_of_file [] bs) c.close-writer.result.1) c.from_write-serializer.ensures how in
    let failed = subst (λ (r : Result (Unit {0}) Fault). WritesInMemory false w new (rest_of_file [] bs) r) c.in-Err-closed.is at in
    rw c.in_memory-in-Err-closed.ensures (file_fails w new c.args.rows.now _ (ap (λ (s : CountingWriterState). s.written_bytes) c.wrap-writer.ensures) (ap (λ (s : CountingWriterState). s.failed_calls) c.wrap-writer.ensures) failed)

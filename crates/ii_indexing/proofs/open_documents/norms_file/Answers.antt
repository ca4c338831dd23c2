use Rattle.std.proofs.Common.{◌≡◌, ◌∙◌, [], List, ℕ, length, refl, sym, ap, subst, arith, false, Some}
use Rattle.std.specs.Prelude.{OnOk, Result}
use Rattle.ii_io.specs.CompositeWrite.{CompositeWriteState, HasBodies}
use Rattle.ii_io.specs.CountingWriter.{CountingWriterState, WritesInMemory}
use Rattle.ii_io.specs.declared.faults.Fault.{Fault}
use Rattle.ii_fieldnorm.specs.Buffers.{WroteNorms, rest_of_file}
use Rattle.ii_indexing.proofs.NormFileLaws.{few_bodies, memory_only, norms_read, norms_written}
use Rattle.ii_indexing.proofs.open_documents.norms_file.Goals as goal
use Rattle.ii_recorder.proofs.GrowthLemmas.{begun_bodies}

pub serialize-writer-requires-clause-few : goal.serialize-writer-requires-clause-few
serialize-writer-requires-clause-few c = λ running. omega (arith, c.requires.few, few_bodies 0 c.args.norms.now, ap (λ (s : CompositeWriteState). length s.starts) c.from_write.ensures)

pub returns-in_ok-from_vec-in-Ok-clause-written : goal.returns-in_ok-from_vec-in-Ok-clause-written
returns-in_ok-from_vec-in-Ok-clause-written c =
    let w = c.wrap-writer.result in
    let begun = subst (λ (s : CompositeWriteState). HasBodies w s []) (sym c.from_write.ensures) (begun_bodies w) in
    let wrote : WroteNorms w c.serialize-writer.result.0 [] c.args.norms.now = subst (λ (r : Result (Unit {0}) Fault). OnOk r (WroteNorms w c.serialize-writer.result.0 [] c.args.norms.now)) c.in-Ok.is (c.serialize-writer.ensures.norms w [] begun refl) in
    let empty : w.contents ≡ Some [] = ap (λ (s : CountingWriterState). s.contents) c.wrap-writer.ensures ∙ ap (λ (xs : List ℕ). Some xs) c.new.ensures.items in
    rw c.in_ok-from_vec-in-Ok.ensures.ok (norms_written w c.serialize-writer.result.0 c.args.norms.now c.finish.result.items empty (sym c.finish.ensures) wrote)

pub returns-in_ok-from_vec-in-Ok-clause-reads : goal.returns-in_ok-from_vec-in-Ok-clause-reads
returns-in_ok-from_vec-in-Ok-clause-reads c =
    let w = c.wrap-writer.result in
    let begun = subst (λ (s : CompositeWriteState). HasBodies w s []) (sym c.from_write.ensures) (begun_bodies w) in
    let wrote : WroteNorms w c.serialize-writer.result.0 [] c.args.norms.now = subst (λ (r : Result (Unit {0}) Fault). OnOk r (WroteNorms w c.serialize-writer.result.0 [] c.args.norms.now)) c.in-Ok.is (c.serialize-writer.ensures.norms w [] begun refl) in
    let empty : w.contents ≡ Some [] = ap (λ (s : CountingWriterState). s.contents) c.wrap-writer.ensures ∙ ap (λ (xs : List ℕ). Some xs) c.new.ensures.items in
    rw c.in_ok-from_vec-in-Ok.ensures.ok (norms_read w c.serialize-writer.result.0 c.args.norms.now c.finish.result.items empty (sym c.finish.ensures) wrote)

pub returns-in-Err-clause-only : goal.returns-in-Err-clause-only
returns-in-Err-clause-only c =
    let w = c.wrap-writer.result in
    let begun = subst (λ (s : CompositeWriteState). HasBodies w s []) (sym c.from_write.ensures) (begun_bodies w) in
    let how = c.serialize-writer.ensures.written w [] begun in
    let at = subst (λ (s : CompositeWriteState). WritesInMemory s.closed s.writer c.serialize-writer.result.0 (rest_of_file [] c.args.norms.now) c.serialize-writer.result.1) c.from_write.ensures how in
    let refused = subst (λ (r : Result (Unit {0}) Fault). WritesInMemory false w c.serialize-writer.result.0 (rest_of_file [] c.args.norms.now) r) c.in-Err.is at in
    c.in_memory.ensures ∙ memory_only w c.serialize-writer.result.0 (rest_of_file [] c.args.norms.now) c.in-Err.fault (ap (λ (s : CountingWriterState). s.written_bytes) c.wrap-writer.ensures) (ap (λ (s : CountingWriterState). s.failed_calls) c.wrap-writer.ensures)
    c.requires.small refused

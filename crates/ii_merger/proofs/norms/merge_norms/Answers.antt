use Rattle.std.proofs.Common.{◌≡◌, ◌∙◌, [], List, ℕ, map, sym, ap, subst, Some}
use Rattle.std.specs.Prelude.{OnOk, Result}
use Rattle.ii_io.specs.Composite.{composite, written_composite, table_bytes}
use Rattle.ii_io.specs.CompositeWrite.{CompositeWriteState, HasBodies, WroteComposite, places_of}
use Rattle.ii_io.specs.CountingWriter.{CountingWriterState, WritesUnlessClosed}
use Rattle.ii_io.specs.declared.faults.Fault.{Fault}
use Rattle.ii_merger.specs.MergedIndex.{opened_segment}
use Rattle.ii_merger.specs.MergedNorms.{merged_norm_file}
use Rattle.ii_merger.proofs.NormLemmas.{holds_norms, in_memory_written, merged_fit, norms_fault, table_fails}
use Rattle.ii_merger.proofs.norms.merge_norms.Goals as goal
use Rattle.ii_recorder.proofs.GrowthLemmas.{begun_bodies}

wrote : (c : goal.In_ok-from_vec-in-Ok) → WroteComposite c.wrap-writer.result c.close-writer.result.0 (merged_norm_file c.args.schema.now (map opened_segment c.args.sources.now))
wrote c =
    let w = c.wrap-writer.result in
    let bodies = merged_norm_file c.args.schema.now (map opened_segment c.args.sources.now) in
    let began = subst (λ (s : CompositeWriteState). HasBodies w s []) (sym c.from_write-serializer.ensures) (begun_bodies w) in
    let has = c.in_default.ensures.adds w began in
    subst (λ (r : Result (Unit {0}) Fault). OnOk r (WroteComposite w c.close-writer.result.0 bodies)) c.in-Ok.is (c.close-writer.ensures.bodies w bodies has (merged_fit c.args.schema.now (map opened_segment c.args.sources.now) c.requires.many))

written : (c : goal.In_ok-from_vec-in-Ok) → c.in_ok-from_vec-in-Ok.field-0 ≡ written_composite (merged_norm_file c.args.schema.now (map opened_segment c.args.sources.now))
written c =
    let empty : c.wrap-writer.result.contents ≡ Some [] = ap (λ (s : CountingWriterState). s.contents) c.wrap-writer.ensures ∙ ap (λ (xs : List ℕ). Some xs) c.new.ensures.items in
    c.in_ok-from_vec-in-Ok.ensures.ok ∙ in_memory_written c.wrap-writer.result c.close-writer.result.0 (merged_norm_file c.args.schema.now (map opened_segment c.args.sources.now)) c.finish.result.items empty (sym c.finish.ensures) (wrote c)

opened : (c : goal.In_ok-from_vec-in-Ok) → composite c.in_ok-from_vec-in-Ok.field-0 ≡ Some (merged_norm_file c.args.schema.now (map opened_segment c.args.sources.now))
opened c = ap composite (written c) ∙ (wrote c).reads_back

pub returns-in_ok-from_vec-in-Ok-clause-written : goal.returns-in_ok-from_vec-in-Ok-clause-written
returns-in_ok-from_vec-in-Ok-clause-written c = written c

pub returns-in_ok-from_vec-in-Ok-clause-opened : goal.returns-in_ok-from_vec-in-Ok-clause-opened
returns-in_ok-from_vec-in-Ok-clause-opened c = opened c

pub returns-in_ok-from_vec-in-Ok-clause-holds : goal.returns-in_ok-from_vec-in-Ok-clause-holds
returns-in_ok-from_vec-in-Ok-clause-holds c =
    λ ss hold. holds_norms c.args.schema.now (map opened_segment c.args.sources.now) ss c.in_ok-from_vec-in-Ok.field-0 hold (λ field. c.counts_of_segments.ensures field ss) (written c) (opened c)

pub returns-in-Err-clause-fault : goal.returns-in-Err-clause-fault
returns-in-Err-clause-fault c =
    let w = c.wrap-writer.result in
    let began = subst (λ (s : CompositeWriteState). HasBodies w s []) (sym c.from_write-serializer.ensures) (begun_bodies w) in
    norms_fault c.args.schema.now (map opened_segment c.args.sources.now) w c.in-Err.fault (ap (λ (s : CountingWriterState). s.written_bytes) c.wrap-writer.ensures) (ap (λ (s : CountingWriterState). s.failed_calls) c.wrap-writer.ensures) (c.in-Err.ensures.fault w began)

pub returns-in-Err-written-clause-fault : goal.returns-in-Err-written-clause-fault
returns-in-Err-written-clause-fault c =
    let w = c.wrap-writer.result in
    let s = c.add_all_norms.new.serializer in
    let began = subst (λ (s : CompositeWriteState). HasBodies w s []) (sym c.from_write-serializer.ensures) (begun_bodies w) in
    let failed = subst (λ (r : Result (Unit {0}) Fault). WritesUnlessClosed s.closed s.writer c.close-writer.result.0 (table_bytes (places_of s)) r) c.in-Err-written.is c.close-writer.ensures.written in
    rw c.in_memory.ensures
    (table_fails c.args.schema.now (map opened_segment c.args.sources.now) w c.close-writer.result.0 s c.in-Err-written.fault (ap (λ (s : CountingWriterState). s.written_bytes) c.wrap-writer.ensures) (ap (λ (s : CountingWriterState). s.failed_calls) c.wrap-writer.ensures)
    (c.in_default.ensures.adds w began) c.in_default.ensures.open failed)

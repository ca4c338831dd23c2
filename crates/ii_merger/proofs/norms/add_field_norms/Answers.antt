use Rattle.ii_merger.proofs.IndexMergeLemmas.{none_started}
use Rattle.ii_merger.proofs.norms.add_field_norms.Goals as goal
use Rattle.std.proofs.Common.{◌∙◌, ◌++◌, ℕ, List, Result, map, sym, ap, subst}
use Rattle.ii_io.specs.declared.faults.Fault.{Fault}
use Rattle.ii_io.specs.CountingWriter.{WritesInMemory}
use Rattle.ii_base.specs.Schema.{keeps_norms}
use Rattle.ii_merger.specs.MergedIndex.{opened_segment}
use Rattle.ii_merger.specs.MergedNorms.{merged_ids}
use Rattle.ii_merger.proofs.NormLemmas.{fails_in_memory, field_full}

pub serialize_field-requires-clause-unwritten : goal.serialize_field-requires-clause-unwritten
serialize_field-requires-clause-unwritten c unclosed = none_started c.args.field c.args.serializer.now.starts c.requires.below.below

pub returns-in-Err-serialize_field-clause-fault : goal.returns-in-Err-serialize_field-clause-fault
returns-in-Err-serialize_field-clause-fault c =
    let s = c.args.serializer.now in
    let ids = merged_ids c.args.field (map opened_segment c.args.sources.now) in
    let failed = subst (λ (r : Result (Unit {0}) Fault). WritesInMemory s.closed s.writer c.serialize_field.new.self.writer c.as_slice.result.now r) c.in-Err-serialize_field.is c.serialize_field.ensures.written in
    let same = c.as_slice.ensures.value ∙ c.in_default.ensures.ok ∙ ap (λ (xs : List ℕ). xs ++ ids) c.clear.ensures.items in
    field_full _ (keeps_norms c.args.entry.now) s.writer c.as_slice.result.now ids c.in_memory.result (sym c.if-not-has_norms.ensures) same
    (rw c.in_memory.ensures (fails_in_memory s.closed s.writer c.serialize_field.new.self.writer c.as_slice.result.now c.in-Err-serialize_field.fault c.requires.open failed))

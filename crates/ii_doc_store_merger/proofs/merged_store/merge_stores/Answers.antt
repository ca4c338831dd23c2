use Rattle.std.proofs.Common.{◌∙◌, List, Result, Some, ap, map, subst, ℕ}
use Rattle.std.specs.Prelude.{IfErr, OnOk}
use Rattle.ii_io.specs.CountingWriter.{CountingWriterState}
use Rattle.ii_doc_store.specs.StoreReader.{HoldsDocuments}
use Rattle.ii_doc_store_merger.specs.declared.faults.StoreMergeFault.{StoreMergeFault}
use Rattle.ii_doc_store_merger.specs.StoreSources.{IsMergedStore, IsStoreMergeFault, OrWriterFailed, WroteMergedStore, documents_of_segments, memory_store}
use Rattle.ii_doc_store_merger.proofs.MergeLemmas.{all_readable, undamaged, whole_file}
use Rattle.ii_doc_store_merger.proofs.WriterLemmas.{fault_in_memory}
use Rattle.ii_doc_store_merger.proofs.merged_store.merge_stores.Goals as goal

pub returns-in-Ok-clause-merged : goal.returns-in-Ok-clause-merged
returns-in-Ok-clause-merged c =
    let ss = map memory_store c.args.sources.now in
    let start = c.wrap-writer.result in
    let final = c.merge_stores_to-writer.result.0 in
    let wrote = subst (λ (r : Result (Unit {0}) StoreMergeFault). OnOk r (WroteMergedStore ss start final)) c.in-Ok.is (c.merge_stores_to-writer.ensures.merged (all_readable c.args.sources.now)) in
    let empty = ap (λ (w : CountingWriterState). w.contents) c.wrap-writer.ensures ∙ ap (λ (xs : List ℕ). Some xs) c.new.ensures.items in
    subst (IsMergedStore ss) (whole_file wrote.bytes c.finish.result.items start.contents final.contents empty c.finish.ensures wrote.wrote.appends) wrote.is

pub returns-in-Ok-clause-holds : goal.returns-in-Ok-clause-holds
returns-in-Ok-clause-holds c ds hold =
    let ss = map memory_store c.args.sources.now in
    let start = c.wrap-writer.result in
    let final = c.merge_stores_to-writer.result.0 in
    let wrote = subst (λ (r : Result (Unit {0}) StoreMergeFault). OnOk r (WroteMergedStore ss start final)) c.in-Ok.is (c.merge_stores_to-writer.ensures.merged (all_readable c.args.sources.now)) in
    let empty = ap (λ (w : CountingWriterState). w.contents) c.wrap-writer.ensures ∙ ap (λ (xs : List ℕ). Some xs) c.new.ensures.items in
    subst (λ (bytes : List ℕ). HoldsDocuments bytes (documents_of_segments ds)) (whole_file wrote.bytes c.finish.result.items start.contents final.contents empty c.finish.ensures wrote.wrote.appends) (wrote.holds ds hold)

pub returns-in-Err-clause-fault : goal.returns-in-Err-clause-fault
returns-in-Err-clause-fault c =
    let ss = map memory_store c.args.sources.now in
    let cause = subst (λ (r : Result (Unit {0}) StoreMergeFault). IfErr r (OrWriterFailed (IsStoreMergeFault ss))) c.in-Err.is (c.merge_stores_to-writer.ensures.fault (all_readable c.args.sources.now)) in
    rw c.in_memory.ensures (fault_in_memory ss c.in-Err.fault cause)

pub returns-in-Err-clause-undamaged : goal.returns-in-Err-clause-undamaged
returns-in-Err-clause-undamaged c ds hold = λ damage.
    let ss = map memory_store c.args.sources.now in
    let cause = subst (λ (r : Result (Unit {0}) StoreMergeFault). IfErr r (OrWriterFailed (IsStoreMergeFault ss))) c.in-Err.is (c.merge_stores_to-writer.ensures.fault (all_readable c.args.sources.now)) in
    undamaged ss ds c.in_memory.result c.requires.fits hold (rw c.in_memory.ensures (fault_in_memory ss c.in-Err.fault cause)) damage

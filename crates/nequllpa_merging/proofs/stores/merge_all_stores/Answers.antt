use Rattle.std.proofs.Common.{Result, map, subst}
use Rattle.std.specs.Prelude.{IfErr}
use Rattle.std.specs.List.{AllByRecursion}
use Rattle.ii_doc_store_merger.specs.declared.faults.StoreMergeFault.{StoreMergeFault}
use Rattle.ii_doc_store_merger.specs.StoreSources.{FitsFlags, IsReadable, IsStoreMergeFault, OrWriterFailed, opened_store}
use Rattle.ii_doc_store_merger.proofs.WriterLemmas.{fault_in_memory}
use Rattle.nequllpa_merging.specs.StoredDocuments.{file_bytes, is_sound_file, stored_view}
use Rattle.nequllpa_merging.proofs.StoreLemmas.{given, given_opens, stores_refused}
use Rattle.nequllpa_merging.proofs.stores.merge_all_stores.Goals as goal

pub merge_stores_to-file-requires : goal.merge_stores_to-file-requires
merge_stores_to-file-requires g c = record { fits = given (λ xs. AllByRecursion FitsFlags (map (opened_store (file_bytes g.D.File.ReadAt.bytes)) xs)) c.in-Ok-Some.field-0 c.in-Ok-Some.sources c.as_slice.result.now c.in-Ok-Some.ensures.fits c.in-Ok-Some.field-0-is c.as_slice.ensures.value }

pub returns-clause-fault : goal.returns-clause-fault
returns-clause-fault g c = λ known.
    let bytes = g.D.File.ReadAt.bytes in
    let fs = map (stored_view bytes) c.args.segments.now in
    let items = c.as_slice.result.now in
    let ss = map (opened_store (file_bytes bytes)) items in
    let fault = c.in-Err-merged.fault in
    let opens = given_opens (opened_store (file_bytes bytes)) fs c.in-Ok-Some.field-0 c.in-Ok-Some.sources items (c.in-Ok-Some.ensures.opened known) c.in-Ok-Some.field-0-is c.as_slice.ensures.value in
    let readable = given (AllByRecursion (IsReadable (file_bytes bytes) (is_sound_file bytes))) c.in-Ok-Some.field-0 c.in-Ok-Some.sources items (c.in-Ok-Some.ensures.readable known) c.in-Ok-Some.field-0-is c.as_slice.ensures.value in
    let cause = subst (λ (r : Result (Unit {0}) StoreMergeFault). IfErr r (OrWriterFailed (IsStoreMergeFault ss))) c.in-Err-merged.is (c.merge_stores_to-file.ensures.fault readable) in
    rw c.stores_fault.ensures (rw (c.in_memory.ensures, c.in-Err-merged.fault-is) (stores_refused fs ss _ opens (fault_in_memory ss fault cause)))

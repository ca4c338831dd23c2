use Rattle.std.proofs.Common.{◌∙◌, List, ap, inr, map, subst, sym}
use Rattle.std.specs.List.{AllByRecursion, AllZip}
use Rattle.ii_merger.specs.MergedIndex.{all_living}
use Rattle.ii_segment_store.specs.Contents.{SegmentContents}
use Rattle.ii_segment_store.specs.Sources.{source_contents}
use Rattle.ii_segment_store.specs.NewSegments.{new_contents, new_file_if}
use Rattle.ii_segments.specs.Segments.{merged}
use Rattle.nequllpa_merging.specs.Faults.{OfMerge}
use Rattle.nequllpa_merging.specs.HeldSegments.{HoldsSegment}
use Rattle.nequllpa_merging.specs.MergedSegments.{IsMergedFrom, merge_source}
use Rattle.nequllpa_merging.specs.OpenedSegments.{OpensFrom, opened_view}
use Rattle.nequllpa_merging.specs.StoredDocuments.{HasMergedStore, HoldsStored, IsStoresFault, KnowsStore, StoredFile, merged_documents, stored_file, stored_view}
use Rattle.nequllpa_merging.specs.declared.opening.OpenedSegment.{OpenedSegment}
use Rattle.nequllpa_merging.proofs.MergeLemmas.{opening_undamaged}
use Rattle.nequllpa_merging.proofs.MergedLemmas.{documents_with, of_merge, segment_with, stored_undamaged}
use Rattle.nequllpa_merging.proofs.OpenLemmas.{all_opened_for, segments_held}
use Rattle.nequllpa_merging.proofs.merging.merge_segments.Goals as goal

pub returns-in-Err-clause-undamaged : goal.returns-in-Err-clause-undamaged
returns-in-Err-clause-undamaged g c = λ readable ss hold damage. opening_undamaged c.in-Err.fault c.args.schema.now (map (source_contents g.D.File.ReadAt.bytes) c.args.segments.items) ss hold c.in-Err.ensures.fault damage

pub merge_opened-requires : goal.merge_opened-requires
merge_opened-requires g c =
    let cs = map (source_contents g.D.File.ReadAt.bytes) c.args.segments.items in
    let opens = subst (λ (xs : List (OpenedSegment _)). AllZip (OpensFrom c.args.schema.now) cs (map opened_view xs)) (sym c.as_slice.ensures.value) c.in-Ok.ensures.opens in
    record { opened = all_opened_for c.args.schema.now cs (map opened_view c.as_slice.result.now) opens }

pub returns-in-Err-merge_opened-clause-undamaged : goal.returns-in-Err-merge_opened-clause-undamaged
returns-in-Err-merge_opened-clause-undamaged g c = λ readable ss hold.
    let cs = map (source_contents g.D.File.ReadAt.bytes) c.args.segments.items in
    let opens = subst (λ (xs : List (OpenedSegment _)). AllZip (OpensFrom c.args.schema.now) cs (map opened_view xs)) (sym c.as_slice.ensures.value) c.in-Ok.ensures.opens in
    c.in-Err-merge_opened.ensures.undamaged ss (segments_held c.args.schema.now cs (map opened_view c.as_slice.result.now) ss hold opens)

pub returns-in-Ok-merge_all_stores-clause-holds : goal.returns-in-Ok-merge_all_stores-clause-holds
returns-in-Ok-merge_all_stores-clause-holds g c = λ known readable ss hold.
    let entries = c.args.schema.now in
    let cs = map (source_contents g.D.File.ReadAt.bytes) c.args.segments.items in
    let opens = subst (λ (xs : List (OpenedSegment _)). AllZip (OpensFrom entries) cs (map opened_view xs)) (sym c.as_slice.ensures.value) c.in-Ok.ensures.opens in
    let held = c.in-Ok-merge_opened.ensures.holds known ss (segments_held entries cs (map opened_view c.as_slice.result.now) ss hold opens) in
    let store = new_file_if c.in-Ok-merge_all_stores.store in
    let is = subst (λ (fs : List StoredFile). HasMergedStore fs store) (ap (map (stored_view g.D.File.ReadAt.bytes)) c.as_slice-2.ensures.value ∙ c.in-Ok.ensures.stored) (c.in-Ok-merge_all_stores.ensures.merged known (subst (AllByRecursion (KnowsStore g.D.File.ReadAt.bytes)) (sym c.as_slice-2.ensures.value) (c.in-Ok.ensures.known readable))) in
    subst (λ (f : SegmentContents). HoldsSegment entries f (merged ss)) (sym c.with_store.ensures.contents) (segment_with entries cs ss (new_contents c.in-Ok-merge_opened.segment) store hold held is)

pub returns-in-Ok-merge_all_stores-clause-documents : goal.returns-in-Ok-merge_all_stores-clause-documents
returns-in-Ok-merge_all_stores-clause-documents g c = λ known readable ds hold.
    let cs = map (source_contents g.D.File.ReadAt.bytes) c.args.segments.items in
    let files = c.in-Ok-merge_opened.segment in
    let store = new_file_if c.in-Ok-merge_all_stores.store in
    let is = subst (λ (fs : List StoredFile). HasMergedStore fs store) (ap (map (stored_view g.D.File.ReadAt.bytes)) c.as_slice-2.ensures.value ∙ c.in-Ok.ensures.stored) (c.in-Ok-merge_all_stores.ensures.merged known (subst (AllByRecursion (KnowsStore g.D.File.ReadAt.bytes)) (sym c.as_slice-2.ensures.value) (c.in-Ok.ensures.known readable))) in
    let docs = (c.in-Ok-merge_opened.ensures.merged known).num_docs ∙ ap (λ (xs : List (OpenedSegment _)). all_living (map merge_source (map opened_view xs))) c.as_slice.ensures.value in
    subst (λ (f : SegmentContents). HoldsStored (stored_file f) (merged_documents ds)) (sym c.with_store.ensures.contents) (documents_with g.D.File.ReadAt.bytes c.in-Ok.opened.items (map stored_file cs) ds files.num_docs store c.in-Ok.ensures.stored docs hold is)

pub returns-clause-undamaged : goal.returns-clause-undamaged
returns-clause-undamaged g c = λ readable ss hold.
    let cs = map (source_contents g.D.File.ReadAt.bytes) c.args.segments.items in
    let fault = c.in-Err-merge_all_stores.fault in
    let cause = subst (λ (fs : List StoredFile). OfMerge (IsStoresFault fs) fault) (ap (map (stored_view g.D.File.ReadAt.bytes)) c.as_slice-2.ensures.value ∙ c.in-Ok.ensures.stored) (c.in-Err-merge_all_stores.ensures.fault (subst (AllByRecursion (KnowsStore g.D.File.ReadAt.bytes)) (sym c.as_slice-2.ensures.value) (c.in-Ok.ensures.known readable))) in
    of_merge _ _ fault (λ e is damage. stored_undamaged c.args.schema.now cs ss e hold is damage) cause

pub returns-in-Ok-merge_all_stores-clause-written : goal.returns-in-Ok-merge_all_stores-clause-written
returns-in-Ok-merge_all_stores-clause-written g c = λ known. c.with_store.ensures.written (c.in-Ok-merge_opened.ensures.written known) (c.in-Ok-merge_all_stores.ensures.written known)

pub returns-in-Ok-merge_all_stores-clause-merged : goal.returns-in-Ok-merge_all_stores-clause-merged
returns-in-Ok-merge_all_stores-clause-merged g c = λ known readable.
    let entries = c.args.schema.now in
    let cs = map (source_contents g.D.File.ReadAt.bytes) c.args.segments.items in
    let opens = subst (λ (xs : List (OpenedSegment _)). AllZip (OpensFrom entries) cs (map opened_view xs)) (sym c.as_slice.ensures.value) c.in-Ok.ensures.opens in
    let h = c.in-Ok-merge_opened.ensures.merged known in
    let store = new_file_if c.in-Ok-merge_all_stores.store in
    let is = subst (λ (fs : List StoredFile). HasMergedStore fs store) (ap (map (stored_view g.D.File.ReadAt.bytes)) c.as_slice-2.ensures.value ∙ c.in-Ok.ensures.stored) (c.in-Ok-merge_all_stores.ensures.merged known
    (subst (AllByRecursion (KnowsStore g.D.File.ReadAt.bytes)) (sym c.as_slice-2.ensures.value) (c.in-Ok.ensures.known readable))) in
    subst (IsMergedFrom entries cs) (sym c.with_store.ensures.contents)
    (record {
      opened = map opened_view c.as_slice.result.now;
      opens = opens;
      files = record { num_docs = h.num_docs; parts = h.parts; are = h.are; terms = h.terms; postings = h.postings; positions = h.positions; have_norms = h.have_norms; fieldnorms = h.fieldnorms; counts = h.counts };
      store = is;
    })

pub returns-clause-fault : goal.returns-clause-fault
returns-clause-fault g c = λ known readable.
    let cs = map (source_contents g.D.File.ReadAt.bytes) c.args.segments.items in
    let fault = c.in-Err-merge_all_stores.fault in
    let cause = subst (λ (fs : List StoredFile). OfMerge (IsStoresFault fs) fault) (ap (map (stored_view g.D.File.ReadAt.bytes)) c.as_slice-2.ensures.value ∙ c.in-Ok.ensures.stored) (c.in-Err-merge_all_stores.ensures.fault (subst (AllByRecursion (KnowsStore g.D.File.ReadAt.bytes)) (sym c.as_slice-2.ensures.value) (c.in-Ok.ensures.known readable))) in
    of_merge _ _ fault (λ e is. inr (inr is)) cause

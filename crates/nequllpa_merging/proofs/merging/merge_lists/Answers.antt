use Rattle.std.proofs.Common.{◌≡◌, ◌∙◌, List, ℕ, Result, ap, inr, length, map, subst, sym}
use Rattle.std.specs.Prelude.{IfErr, OnOk}
use Rattle.std.specs.List.{AllByRecursion}
use Rattle.std.proofs.lemmas.List.FromFn.{length-map-range_with_len}
use Rattle.ii_io.specs.declared.faults.Fault.{Fault}
use Rattle.ii_io.specs.declared.faults.Part.{Part}
use Rattle.ii_io.specs.declared.faults.Fault.TheVariants.{Damaged}
use Rattle.ii_indexing.specs.IndexFiles.{WroteIndex}
use Rattle.ii_indexing.specs.declared.index_writers.IndexWriters.{IndexWriters}
use Rattle.ii_merger.specs.MergedFiles.{IsMergeFault, WroteMerged, merging_of}
use Rattle.ii_merger.specs.MergedIndex.{MergeSourceState, MergeSourcesHold, opened_segment}
use Rattle.ii_segments.specs.Segments.{index_tokens, num_docs_of}
use Rattle.nequllpa_merging.specs.Faults.{IsPartDamage}
use Rattle.nequllpa_merging.specs.MergedSegments.{merge_source, merging, total_of, totals_of}
use Rattle.nequllpa_merging.specs.OpenedSegments.{opened_view}
use Rattle.nequllpa_merging.proofs.MergeLemmas.{all_fields, fault_in_memory, no_damage, of_fault, sources_hold, totals_held}
use Rattle.nequllpa_merging.proofs.merging.merge_lists.Goals as goal

-- ---- the sources and the numbers of tokens that are given
pub merge-files-requires-clause-fields : goal.merge-files-requires-clause-fields
merge-files-requires-clause-fields g c =
    let os = map opened_view c.args.segments.now in
    let given : map opened_segment c.as_slice.result.now ≡ map merge_source os = ap (map opened_segment) c.as_slice.ensures.value ∙ c.in-Ok-merge_sources.ensures.ok in
    subst (AllByRecursion (λ (s : MergeSourceState). length s.index.readers ≡ length c.args.schema.now)) (sym given) (all_fields c.args.schema.now os c.requires.opened)

pub merge-files-requires-clause-counts : goal.merge-files-requires-clause-counts
merge-files-requires-clause-counts g c =
    let os = map opened_view c.args.segments.now in
    ap length (c.as_slice-2.ensures.value ∙ c.in-Ok.ensures.ok) ∙ length-map-range_with_len (λ (field : ℕ). total_of field os) 0 (length c.args.schema.now)

pub returns-in-Ok-merged-clause-wrote : goal.returns-in-Ok-merged-clause-wrote
returns-in-Ok-merged-clause-wrote g c = λ known.
    let entries = c.args.schema.now in
    let os = map opened_view c.args.segments.now in
    let given : map opened_segment c.as_slice.result.now ≡ map merge_source os = ap (map opened_segment) c.as_slice.ensures.value ∙ c.in-Ok-merge_sources.ensures.ok in
    let counted : c.as_slice-2.result.now ≡ totals_of (length entries) os = c.as_slice-2.ensures.value ∙ c.in-Ok.ensures.ok in
    let wrote = subst (λ (r : Result (Unit {0}) Fault). OnOk r (WroteMerged (merging_of entries c.as_slice-2.result.now (map opened_segment c.as_slice.result.now)) c.in-Ok-index_writers.writers c.merge-files.result.0)) c.in-Ok-merged.is c.merge-files.ensures.wrote in
    subst (λ (w : IndexWriters _). WroteMerged (merging entries os) w c.merge-files.result.0) (c.in-Ok-index_writers.ensures.empty known)
    (subst (λ (ns : List ℕ). WroteMerged (merging_of entries ns (map merge_source os)) c.in-Ok-index_writers.writers c.merge-files.result.0) counted
    (subst (λ (xs : List MergeSourceState). WroteMerged (merging_of entries c.as_slice-2.result.now xs) c.in-Ok-index_writers.writers c.merge-files.result.0) given wrote))

pub returns-in-Ok-merged-clause-holds : goal.returns-in-Ok-merged-clause-holds
returns-in-Ok-merged-clause-holds g c = λ known ss hold.
    let entries = c.args.schema.now in
    let os = map opened_view c.args.segments.now in
    let given : map opened_segment c.as_slice.result.now ≡ map merge_source os = ap (map opened_segment) c.as_slice.ensures.value ∙ c.in-Ok-merge_sources.ensures.ok in
    let sources = subst (λ (xs : List MergeSourceState). MergeSourcesHold entries xs ss) (sym given) (sources_hold entries os ss hold) in
    let counted = c.as_slice-2.ensures.value ∙ c.in-Ok.ensures.ok ∙ totals_held entries os ss c.counts_of_segments.ensures hold in
    let wrote = subst (λ (r : Result (Unit {0}) Fault). OnOk r (WroteIndex entries (num_docs_of ss) c.in-Ok-index_writers.writers c.merge-files.result.0 (index_tokens ss))) c.in-Ok-merged.is (c.merge-files.ensures.holds ss sources counted) in
    subst (λ (w : IndexWriters _). WroteIndex entries (num_docs_of ss) w c.merge-files.result.0 (index_tokens ss)) (c.in-Ok-index_writers.ensures.empty known) wrote

pub returns-clause-fault : goal.returns-clause-fault
returns-clause-fault g c = λ known.
    let entries = c.args.schema.now in
    let os = map opened_view c.args.segments.now in
    let given : map opened_segment c.as_slice.result.now ≡ map merge_source os = ap (map opened_segment) c.as_slice.ensures.value ∙ c.in-Ok-merge_sources.ensures.ok in
    let counted : c.as_slice-2.result.now ≡ totals_of (length entries) os = c.as_slice-2.ensures.value ∙ c.in-Ok.ensures.ok in
    let e = c.in-Err-merged.fault in
    let w = c.in-Ok-index_writers.writers in
    let cause = subst (λ (r : Result (Unit {0}) Fault). IfErr r (IsMergeFault (merging_of entries c.as_slice-2.result.now (map opened_segment c.as_slice.result.now)) w)) c.in-Err-merged.is c.merge-files.ensures.fault in
    let over = subst (λ (ns : List ℕ). IsMergeFault (merging_of entries ns (map merge_source os)) w e) counted (subst (λ (xs : List MergeSourceState). IsMergeFault (merging_of entries c.as_slice-2.result.now xs) w e) given cause) in
    of_fault _ _ c.files_fault.result (λ f is. inr (inr (record { cause = e; is = fault_in_memory (merging entries os) w e (c.in-Ok-index_writers.ensures.empty known) over; in_memory = is }))) c.files_fault.ensures.fault

pub returns-clause-undamaged : goal.returns-clause-undamaged
returns-clause-undamaged g c ss hold =
    let entries = c.args.schema.now in
    let os = map opened_view c.args.segments.now in
    let given : map opened_segment c.as_slice.result.now ≡ map merge_source os = ap (map opened_segment) c.as_slice.ensures.value ∙ c.in-Ok-merge_sources.ensures.ok in
    let sources = subst (λ (xs : List MergeSourceState). MergeSourcesHold entries xs ss) (sym given) (sources_hold entries os ss hold) in
    let none = subst (λ (r : Result (Unit {0}) Fault). IfErr r (λ e. (part : Part) → ¬ (e ≡ Damaged part))) c.in-Err-merged.is (c.merge-files.ensures.undamaged ss sources) in
    of_fault _ _ c.files_fault.result (λ f is damage. no_damage c.in-Err-merged.fault none (subst IsPartDamage is damage)) c.files_fault.ensures.fault

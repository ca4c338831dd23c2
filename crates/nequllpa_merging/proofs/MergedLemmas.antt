-- The merged files with stored documents.
use Rattle.std.proofs.Common.{◌≡◌, ℕ, ◌+◌, Bool, true, List, [], ◌∷◌, ◌++◌, length, map, replicate, Option, inl, inr, refl, sym, ap, subst, ◌∙◌}
use Rattle.std.specs.List.{AllZip}
use Rattle.std.proofs.lemmas.List.{length-replicate, map-append}
use Rattle.ii_base.specs.Schema.{SchemaEntry}
use Rattle.ii_alive.specs.Alive.{num_living}
use Rattle.ii_doc_store_merger.specs.StoreSources.{SegmentDocuments, documents_of_segments}
use Rattle.ii_merger.specs.MergedIndex.{all_living}
use Rattle.ii_segment_store.specs.Contents.{SegmentContents}
use Rattle.ii_segment_store.specs.Sources.{source_contents}
use Rattle.ii_segment_store.specs.declared.segment_source.SegmentSource.{SegmentSource}
use Rattle.ii_segments.specs.Segments.{Segment, merged, num_docs_of}
use Rattle.nequllpa_merging.specs.Faults.{IsDamage, IsPartDamage, OfMerge}
use Rattle.nequllpa_merging.specs.declared.faults.JoinFault.{JoinFault}
use Rattle.nequllpa_merging.specs.declared.faults.JoinFault.TheVariants as joins
use Rattle.nequllpa_merging.specs.HeldSegments.{HoldSegments, HoldsSegment}
use Rattle.nequllpa_merging.specs.MergedSegments.{merge_source}
use Rattle.nequllpa_merging.specs.OpenedSegments.{opened_view}
use Rattle.nequllpa_merging.specs.StoredDocuments.{HasMergedStore, HoldsSomeDocuments, HoldsStored, IsStoresFault, StoredFile, merged_documents, stored_file, stored_view}
use Rattle.nequllpa_merging.specs.declared.faults.MergeFault.{MergeFault}
use Rattle.nequllpa_merging.specs.declared.faults.MergeFault.TheVariants as merges
use Rattle.nequllpa_merging.specs.declared.opening.OpenedSegment.{OpenedSegment}
use Rattle.nequllpa_merging.proofs.StoreLemmas.{HoldsCount, documents_count, living_in, some_merged, stored_merged, stores_undamaged}

-- one more segment keeps its file
pub stored_goes_on : {F : Type 0} (bytes : F → Option (List ℕ)) (taken : List (SegmentSource F)) (made new : List (OpenedSegment F)) (x : SegmentSource F) (y : OpenedSegment F) → new ≡ made ++ y ∷ [] → stored_view bytes y ≡ stored_file (source_contents bytes x) → map (stored_view bytes) made ≡ map stored_file (map (source_contents bytes) taken)
    → map (stored_view bytes) new ≡ map stored_file (map (source_contents bytes) (taken ++ x ∷ []))
stored_goes_on bytes taken made new x y pushed is so_far =
    ap (map (stored_view bytes)) pushed ∙ map-append (stored_view bytes) made (y ∷ []) ∙ ap (λ (fs : List StoredFile). fs ++ stored_view bytes y ∷ []) so_far ∙ ap (λ (f : StoredFile). map stored_file (map (source_contents bytes) taken) ++ f ∷ []) is
    ∙ sym (ap (map stored_file) (map-append (source_contents bytes) taken (x ∷ [])) ∙ map-append stored_file (map (source_contents bytes) taken) (source_contents bytes x ∷ []))

-- a segment that keeps its file and flags
pub stored_same : {F : Type 0} (bytes : F → Option (List ℕ)) (x : SegmentSource F) (y : OpenedSegment F) → (y.store ≡ x.store) × (y.alive ≡ x.alive) → stored_view bytes y ≡ stored_file (source_contents bytes x)
stored_same bytes x y same = rw (same.0, same.1) refl

holds_with : (entries : List SchemaEntry) (f : SegmentContents) (store : Option (List ℕ)) (s : Segment) → HoldsSegment entries f s → HoldsSomeDocuments store (length s.alive) → HoldsSegment entries (record f { store = store }) s
holds_with entries f store s h some = record { lists = h.lists; norms = h.norms; counts = h.counts; store = some; alive = h.alive; are = h.are }

counted : (entries : List SchemaEntry) (cs : List SegmentContents) (ss : List Segment) → HoldSegments entries cs ss → AllZip HoldsCount (map stored_file cs) (map (λ (s : Segment). length s.alive) ss)
counted entries [] [] hold = tt
counted entries [] (s ∷ ss) hold = absurd hold
counted entries (c ∷ cs) [] hold = absurd hold
counted entries (c ∷ cs) (s ∷ ss) hold = ((hold.0.store, ap length hold.0.alive), counted entries cs ss hold.1)

living_same : (entries : List SchemaEntry) (cs : List SegmentContents) (ss : List Segment) → HoldSegments entries cs ss → living_in (map stored_file cs) ≡ num_docs_of ss
living_same entries [] [] hold = refl
living_same entries [] (s ∷ ss) hold = absurd hold
living_same entries (c ∷ cs) [] hold = absurd hold
living_same entries (c ∷ cs) (s ∷ ss) hold = ap (λ (alive : List Bool). num_living alive + living_in (map stored_file cs)) hold.0.alive ∙ ap (λ (n : ℕ). num_living s.alive + n) (living_same entries cs ss hold.1)

pub segment_with : (entries : List SchemaEntry) (cs : List SegmentContents) (ss : List Segment) (f : SegmentContents) (store : Option (List ℕ)) → HoldSegments entries cs ss → HoldsSegment entries f (merged ss) → HasMergedStore (map stored_file cs) store
    → HoldsSegment entries (record f { store = store }) (merged ss)
segment_with entries cs ss f store hold held is =
    let some = some_merged (map stored_file cs) (map (λ (s : Segment). length s.alive) ss) store (counted entries cs ss hold) is in
    holds_with entries f store (merged ss) held
    (subst (HoldsSomeDocuments store) (living_same entries cs ss hold ∙ sym (length-replicate (num_docs_of ss) true)) some)

living_opened : {F : Type 0} (bytes : F → Option (List ℕ)) (xs : List (OpenedSegment F)) → all_living (map merge_source (map opened_view xs)) ≡ living_in (map (stored_view bytes) xs)
living_opened bytes [] = refl
living_opened bytes (x ∷ xs) = ap (λ (n : ℕ). num_living x.alive + n) (living_opened bytes xs)

pub documents_with : {F : Type 0} (bytes : F → Option (List ℕ)) (xs : List (OpenedSegment F)) (fs : List StoredFile) (ds : List SegmentDocuments) (n : ℕ) (store : Option (List ℕ)) → map (stored_view bytes) xs ≡ fs → n ≡ all_living (map merge_source (map opened_view xs)) → AllZip HoldsStored fs ds → HasMergedStore fs store
    → HoldsStored (record { bytes = store; alive = replicate n true }) (merged_documents ds)
documents_with bytes xs fs ds n store same docs hold is =
    let many : n ≡ length (documents_of_segments ds) = docs ∙ living_opened bytes xs ∙ ap living_in same ∙ sym (documents_count fs ds hold) in
    record {
      store = stored_merged fs ds store hold is;
      alive = ap (λ (k : ℕ). replicate k true) many;
      count = sym (length-replicate (length (documents_of_segments ds)) true);
    }

-- a fault of a merge, by what it implies
pub of_merge : (P Q : MergeFault → Type 0) (fault : JoinFault) → ((e : MergeFault) → P e → Q e) → OfMerge P fault → OfMerge Q fault
of_merge P Q (joins.Store fault) implies holds = holds
of_merge P Q (joins.Merge fault) implies holds = implies fault holds
of_merge P Q (joins.Write fault) implies holds = tt
of_merge P Q (joins.Commit fault) implies holds = holds

-- stored documents aren't called damaged
pub stored_undamaged : (entries : List SchemaEntry) (cs : List SegmentContents) (ss : List Segment) (fault : MergeFault) → HoldSegments entries cs ss → IsStoresFault (map stored_file cs) fault → IsDamage fault → ⊥
stored_undamaged entries cs ss (merges.Segment place part) hold cause damage = cause
stored_undamaged entries cs ss (merges.Store place stored) hold cause damage = stores_undamaged (map stored_file cs) (map (λ (s : Segment). length s.alive) ss) place stored (counted entries cs ss hold) cause
stored_undamaged entries cs ss (merges.Read place fault) hold cause damage = cause
stored_undamaged entries cs ss (merges.LongDocument place) hold cause damage = damage
stored_undamaged entries cs ss merges.TooManyDocuments hold cause damage = damage
stored_undamaged entries cs ss merges.TooManyFields hold cause damage = damage
stored_undamaged entries cs ss (merges.Merge fault) hold (inl memory) damage = subst IsPartDamage memory damage
stored_undamaged entries cs ss (merges.Merge fault) hold (inr limit) damage = subst IsPartDamage limit damage

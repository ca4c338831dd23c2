-- Open segments, as they are merged, and what the merged files hold.
use Rattle.std.proofs.Common.{◌≡◌, ℕ, ◌+◌, ◌<◌, Bool, List, [], ◌∷◌, length, map, Option, None, Some, inl, inr, refl, sym, ap, subst, ◌∙◌, arith, Vec, Global}
use Rattle.std.specs.Prelude.{◌⊎◌, IfSome, sum}
use Rattle.std.specs.List.{AllByRecursion, flat_map}
use Rattle.std.specs.Option.{option_map}
use Rattle.std.proofs.lemmas.List.Sums.{sum_by-append}
use Rattle.ii_io.specs.Composite.{Body}
use Rattle.ii_io.specs.declared.faults.Fault.{Fault}
use Rattle.ii_io.specs.declared.faults.Fault.TheVariants as faults
use Rattle.ii_io.specs.declared.faults.Part.{Part}
use Rattle.ii_io.specs.declared.faults.Part.TheVariants.{TokenCount}
use Rattle.ii_io.specs.Faults.{memory_fault}
use Rattle.ii_base.specs.Schema.{SchemaEntry}
use Rattle.ii_alive.specs.Alive.{num_living}
use Rattle.ii_counts.specs.CountsWriter.{IsRowsFault}
use Rattle.ii_counts_merger.specs.CountsSources.{CountsSourceState, CountsSourcesHold, HasCounts, HaveCounts, merged_rows, num_merged_docs, opened_counts}
use Rattle.ii_counts_merger.specs.declared.counts_source.CountsSource.{CountsSource}
use Rattle.ii_counts_merger.proofs.HoldLemmas.{below_same}
use Rattle.ii_definitions.specs.Postings.{field_count}
use Rattle.ii_indexing.specs.RamFiles.{empty_files}
use Rattle.ii_indexing.specs.declared.index_writers.IndexWriters.{IndexWriters}
use Rattle.ii_merger.specs.MergedFiles.{IsMergeFault, num_tokens_by_field}
use Rattle.ii_merger.specs.MergedIndex.{MergeSourceState, MergeSourcesHold, Merging, all_living}
use Rattle.ii_segment_store.specs.Contents.{SegmentContents}
use Rattle.ii_segments.specs.SegmentLaws.{CountsOfSegments}
use Rattle.ii_segments.specs.Segments.{AreSegmentTokens, Segment, index_tokens, living_counts, num_docs_of}
use Rattle.nequllpa_merging.specs.Faults.{IsDamage, IsPartDamage, OfFault}
use Rattle.nequllpa_merging.specs.declared.faults.FilesFault.{FilesFault}
use Rattle.nequllpa_merging.specs.declared.faults.FilesFault.TheVariants as files
use Rattle.nequllpa_merging.specs.HeldSegments.{HoldSegments, IsOpenedFor, OpenedHold}
use Rattle.nequllpa_merging.specs.MergedSegments.{IsCountsFault, IsOpeningFault, counts_source, counts_source_if, counts_sources, merge_source, total_of, totals_of, with_first}
use Rattle.nequllpa_merging.specs.OpenedSegments.{OpenedSegmentState}
use Rattle.nequllpa_merging.specs.declared.faults.MergeFault.{MergeFault}
use Rattle.nequllpa_merging.specs.declared.faults.MergeFault.TheVariants as merges
use Rattle.nequllpa_merging.proofs.LoopLemmas.{total_cons}
use Rattle.nequllpa_merging.proofs.OpenLemmas.{none_damaged}

-- ---- counts of all segments
record HasFirstSource (o : OpenedSegmentState) (os : List OpenedSegmentState) (sources : List CountsSourceState) : Type 0 where
  bodies : List Body
  has : o.counts ≡ Some bodies
  rest : List CountsSourceState
  more : counts_sources os ≡ Some rest
  is : sources ≡ counts_source bodies o ∷ rest

first_source : (o : OpenedSegmentState) (os : List OpenedSegmentState) (sources : List CountsSourceState) → counts_sources (o ∷ os) ≡ Some sources → HasFirstSource o os sources
first_source o os sources are = by o.counts (counts_sources os) refl refl are
  where
    by : (counts : Option (List Body)) (rest : Option (List CountsSourceState)) → o.counts ≡ counts → counts_sources os ≡ rest → with_first (counts_source_if counts o) rest ≡ Some sources → HasFirstSource o os sources
    by None rest has more are = absurd (cc)
    by (Some bodies) None has more are = absurd (cc)
    by (Some bodies) (Some xs) has more are = record { bodies = bodies; has = has; rest = xs; more = more; is = cc }

no_sources : (sources : List CountsSourceState) → counts_sources [] ≡ Some sources → sources ≡ []
no_sources sources are = cc

-- the counts that were found
pub given_counts : (os : List OpenedSegmentState) (found : Option (Vec CountsSource Global)) (sources : Vec CountsSource Global) (given : List CountsSource) → option_map (λ v. map opened_counts v.items) found ≡ counts_sources os → found ≡ Some sources → given ≡ sources.items
    → counts_sources os ≡ Some (map opened_counts given)
given_counts os found sources given are some same = sym are ∙ ap (option_map (λ (v : Vec CountsSource Global). map opened_counts v.items)) some ∙ ap (λ (xs : List CountsSource). Some (map opened_counts xs)) (sym same)

pub same_docs : (os : List OpenedSegmentState) (sources : List CountsSourceState) → counts_sources os ≡ Some sources → num_merged_docs sources ≡ all_living (map merge_source os)
same_docs [] sources are = ap num_merged_docs (no_sources sources are)
same_docs (o ∷ os) sources are =
    let h = first_source o os sources are in
    ap num_merged_docs h.is ∙ ap (λ (n : ℕ). num_living o.alive + n) (same_docs os h.rest h.more)

pub all_have_counts : (entries : List SchemaEntry) (os : List OpenedSegmentState) (sources : List CountsSourceState) → counts_sources os ≡ Some sources → AllByRecursion (IsOpenedFor entries) os → HaveCounts (length entries) sources
all_have_counts entries [] sources are all field known = subst (AllByRecursion (HasCounts field)) (sym (no_sources sources are)) tt
all_have_counts entries (o ∷ os) sources are all field known =
    let h = first_source o os sources are in
    let own : IfSome (Some h.bodies) (λ bodies. (field : ℕ) → field < length entries → HasCounts field (counts_source bodies o)) =
    subst (λ (counts : Option (List Body)). IfSome counts (λ bodies. (field : ℕ) → field < length entries → HasCounts field (counts_source bodies o))) h.has all.0.counted in
    subst (AllByRecursion (HasCounts field)) (sym h.is) (own field known, all_have_counts entries os h.rest h.more all.1 field known)

pub counts_hold : (entries : List SchemaEntry) (os : List OpenedSegmentState) (sources : List CountsSourceState) (ss : List Segment) → counts_sources os ≡ Some sources → OpenedHold entries os ss → CountsSourcesHold entries sources ss
counts_hold entries [] sources [] are hold = subst (λ (xs : List CountsSourceState). CountsSourcesHold entries xs []) (sym (no_sources sources are)) tt
counts_hold entries [] sources (s ∷ ss) are hold = absurd hold
counts_hold entries (o ∷ os) sources [] are hold = absurd hold
counts_hold entries (o ∷ os) sources (s ∷ ss) are hold =
    let h = first_source o os sources are in
    subst (λ (xs : List CountsSourceState). CountsSourcesHold entries xs (s ∷ ss)) (sym h.is) (rw h.has at hold.0.counts, counts_hold entries os h.rest ss h.more hold.1)

pub counts_fault : (n : ℕ) (os : List OpenedSegmentState) (sources : List CountsSourceState) (e : Fault) → counts_sources os ≡ Some sources → HaveCounts n sources
    → ((e ≡ faults.Damaged TokenCount) × ¬ HaveCounts n sources) ⊎ IsRowsFault (merged_rows n sources) e → IsCountsFault n (counts_sources os) e
counts_fault n os sources e are have (inl damaged) = absurd (damaged.1 have)
counts_fault n os sources e are have (inr fault) = subst (λ (o : Option (List CountsSourceState)). IsCountsFault n o e) (sym are) fault

-- ---- lists of all segments
pub all_fields : (entries : List SchemaEntry) (os : List OpenedSegmentState) → AllByRecursion (IsOpenedFor entries) os → AllByRecursion (λ (s : MergeSourceState). length s.index.readers ≡ length entries) (map merge_source os)
all_fields entries [] all = tt
all_fields entries (o ∷ os) all = (all.0.readers, all_fields entries os all.1)

pub sources_hold : (entries : List SchemaEntry) (os : List OpenedSegmentState) (ss : List Segment) → OpenedHold entries os ss → MergeSourcesHold entries (map merge_source os) ss
sources_hold entries [] [] hold = tt
sources_hold entries [] (s ∷ ss) hold = absurd hold
sources_hold entries (o ∷ os) [] hold = absurd hold
sources_hold entries (o ∷ os) (s ∷ ss) hold = (hold.0.source, sources_hold entries os ss hold.1)

total_held : (entries : List SchemaEntry) (field : ℕ) (os : List OpenedSegmentState) (ss : List Segment) → field < length entries → OpenedHold entries os ss → total_of field os ≡ sum (flat_map (living_counts field) ss)
total_held entries field [] [] known hold = refl
total_held entries field [] (s ∷ ss) known hold = absurd hold
total_held entries field (o ∷ os) [] known hold = absurd hold
total_held entries field (o ∷ os) (s ∷ ss) known hold =
    total_cons field o os ∙ ap (λ (n : ℕ). n + total_of field os) (hold.0.totals field known) ∙ ap (λ (n : ℕ). sum (living_counts field s) + n) (total_held entries field os ss known hold.1)
    ∙ sym (sum_by-append (λ (n : ℕ). n) (living_counts field s) (flat_map (living_counts field) ss))

pub totals_held : (entries : List SchemaEntry) (os : List OpenedSegmentState) (ss : List Segment) → ((field : ℕ) (ss : List Segment) → CountsOfSegments field ss) → OpenedHold entries os ss
    → totals_of (length entries) os ≡ num_tokens_by_field (length entries) (index_tokens ss)
totals_held entries os ss law hold =
    below_same (λ (field : ℕ). total_of field os) (λ (field : ℕ). field_count field (index_tokens ss)) 0 (length entries)
    (λ field known. let same : 0 + field ≡ field = omega arith in rw same (total_held entries field os ss known hold ∙ sym (law field ss).total))

-- ---- faults
pub fault_in_memory : {W : Type 0} (m : Merging) (writers : IndexWriters W) (fault : Fault) → writers ≡ empty_files → IsMergeFault m writers fault → IsMergeFault {W = ℕ} m empty_files fault
fault_in_memory {W} m writers fault empty cause = subst (λ (files : IndexWriters W). IsMergeFault m files fault) empty cause

pub no_damage : (e : Fault) → ((part : Part) → ¬ (e ≡ faults.Damaged part)) → IsPartDamage (memory_fault e) → ⊥
no_damage (faults.Damaged part) none damage = none part refl
no_damage faults.OutOfMemory none damage = damage
no_damage faults.Write none damage = damage
no_damage faults.SerializerClosed none damage = damage
no_damage faults.IndexerFailed none damage = damage
no_damage (faults.UnsupportedLeaf kind) none damage = damage
no_damage faults.DecreasingPosition none damage = damage
no_damage (faults.Limit name) none damage = damage

-- a fault of files, by what it implies
pub of_fault : (P Q : Fault → Type 0) (fault : FilesFault) → ((e : Fault) → P e → Q e) → OfFault P fault → OfFault Q fault
of_fault P Q (files.Directory fault) implies holds = tt
of_fault P Q (files.Fault fault) implies holds = implies fault holds

-- ---- the merged segment
pub docs_held : (entries : List SchemaEntry) (os : List OpenedSegmentState) (ss : List Segment) → OpenedHold entries os ss → all_living (map merge_source os) ≡ num_docs_of ss
docs_held entries [] [] hold = refl
docs_held entries [] (s ∷ ss) hold = absurd hold
docs_held entries (o ∷ os) [] hold = absurd hold
docs_held entries (o ∷ os) (s ∷ ss) hold = ap (λ (alive : List Bool). num_living alive + all_living (map merge_source os)) hold.0.source.alive ∙ ap (λ (n : ℕ). num_living s.alive + n) (docs_held entries os ss hold.1)

pub all_tokens_are : (entries : List SchemaEntry) (os : List OpenedSegmentState) (ss : List Segment) → OpenedHold entries os ss → AllByRecursion (AreSegmentTokens entries) ss
all_tokens_are entries [] [] hold = tt
all_tokens_are entries [] (s ∷ ss) hold = absurd hold
all_tokens_are entries (o ∷ os) [] hold = absurd hold
all_tokens_are entries (o ∷ os) (s ∷ ss) hold = (hold.0.source.tokens, all_tokens_are entries os ss hold.1)

-- segments that hold tokens aren't called damaged
pub opening_undamaged : (fault : MergeFault) (entries : List SchemaEntry) (cs : List SegmentContents) (ss : List Segment) → HoldSegments entries cs ss → IsOpeningFault fault entries cs → IsDamage fault → ⊥
opening_undamaged (merges.Segment place part) entries cs ss hold cause damage = none_damaged entries cs ss place cause.segment part hold cause.found cause.damaged
opening_undamaged (merges.Store place stored) entries cs ss hold cause damage = cause
opening_undamaged (merges.Read place fault) entries cs ss hold cause damage = cause
opening_undamaged (merges.LongDocument place) entries cs ss hold cause damage = damage
opening_undamaged merges.TooManyDocuments entries cs ss hold cause damage = damage
opening_undamaged merges.TooManyFields entries cs ss hold cause damage = damage
opening_undamaged (merges.Merge fault) entries cs ss hold cause damage = subst IsPartDamage cause damage

-- What loops over open segments know.
use Rattle.std.proofs.Common.{◌≡◌, ℕ, zero, suc, ◌+◌, ◌<◌, List, [], ◌∷◌, ◌++◌, append_assoc, drop, get_or, length, map, take, Option, None, Some, Ok, Err, inl, inr, refl, sym, ap, subst, ◌∙◌, arith}
use Rattle.std.specs.Prelude.{slice_get, slice_index}
use Rattle.std.specs.List.{AllByRecursion, AllZip}
use Rattle.std.specs.Option.{option_map}
use Rattle.std.proofs.lemmas.List.Sums.{sum_by-cons}
use Rattle.std.proofs.lemmas.List.{length-map, map-append}
use Rattle.ii_io.specs.declared.faults.Fault.{Fault}
use Rattle.ii_io.specs.declared.faults.Fault.TheVariants.{Damaged, OutOfMemory}
use Rattle.ii_io.specs.declared.faults.Part.{Part}
use Rattle.ii_definitions.proofs.ListLaws.{mapped_at}
use Rattle.ii_reader.specs.InvertedIndexReader.{IsRefusal}
use Rattle.ii_base.specs.Schema.{SchemaEntry}
use Rattle.ii_counts_merger.specs.CountsSources.{CountsSourceState, opened_counts}
use Rattle.ii_counts_merger.specs.declared.counts_source.CountsSource.{CountsSource}
use Rattle.ii_merger.specs.MergedIndex.{MergeSourceState, opened_segment}
use Rattle.ii_merger.specs.declared.merge_source.MergeSource.{MergeSource}
use Rattle.ii_segment_store.specs.Contents.{SegmentContents}
use Rattle.ii_segment_store.specs.Sources.{source_contents}
use Rattle.ii_segment_store.specs.declared.segment_source.SegmentSource.{SegmentSource}
use Rattle.nequllpa_merging.specs.OpenedSegments.{IsFirstDamaged, OpenedSegmentState, IsOpenable, OpensFrom, opened_from, opened_view}
use Rattle.nequllpa_merging.specs.MergedSegments.{IsOpeningFault, counts_source_if, counts_sources, merge_source, total_of, with_first}
use Rattle.nequllpa_merging.specs.declared.faults.MergeFault.{MergeFault}
use Rattle.nequllpa_merging.specs.declared.faults.MergeFault.TheVariants as faults
use Rattle.nequllpa_merging.specs.declared.opening.OpenedSegment.{OpenedSegment}

pub each_item : {A B : Type 0} (P : B → Type 0) (f : A → B) (xs : List A) (i : ℕ) (x : A) → i < length xs → x ≡ get_or xs i x → AllByRecursion P (map f xs) → P (f x)
each_item P f [] i x inside is all = absurd (omega (arith, inside))
each_item P f (y ∷ xs) zero x inside is all = subst (λ (z : _). P (f z)) (sym is) all.0
each_item P f (y ∷ xs) (suc i) x inside is all = each_item P f xs i x (omega (arith, inside)) is all.1

-- the number of tokens of the next segment, and those after it
pub total_cons : (field : ℕ) (o : OpenedSegmentState) (os : List OpenedSegmentState) → total_of field (o ∷ os) ≡ slice_index o.num_tokens field + total_of field os
total_cons field o os = sum_by-cons (λ (n : ℕ). n) (slice_index o.num_tokens field) (map (λ (p : OpenedSegmentState). slice_index p.num_tokens field) os)

-- the lists and norms of one more segment
pub sources_more : {F : Type 0} (xs : List (OpenedSegment F)) (i : ℕ) (x : OpenedSegment F) (made new : List MergeSource) (y : MergeSource) → i < length xs → x ≡ get_or xs i x → new ≡ made ++ y ∷ [] → opened_segment y ≡ merge_source (opened_view x)
    → map opened_segment made ++ map merge_source (drop i (map opened_view xs)) ≡ map merge_source (map opened_view xs) → map opened_segment new ++ map merge_source (drop (i + 1) (map opened_view xs)) ≡ map merge_source (map opened_view xs)
sources_more xs i x made new y inside is pushed same so_far =
    let rest = map merge_source (drop (i + 1) (map opened_view xs)) in
    ap (λ (ys : List MergeSource). map opened_segment ys ++ rest) pushed ∙ ap (λ (ss : List MergeSourceState). ss ++ rest) (map-append opened_segment made (y ∷ []))
    ∙ append_assoc (map opened_segment made) (opened_segment y ∷ []) rest ∙ ap (λ (s : MergeSourceState). map opened_segment made ++ s ∷ rest) same
    ∙ ap (λ (os : List OpenedSegmentState). map opened_segment made ++ map merge_source os) (sym (mapped_at opened_view xs i x inside is)) ∙ so_far

-- the counts of the first segments, before those of the others
abbrev pub after_counts : List CountsSourceState → Option (List CountsSourceState) → Option (List CountsSourceState)
after_counts done None = None
after_counts done (Some sources) = Some (done ++ sources)

pub counts_begin : (all : Option (List CountsSourceState)) → after_counts [] all ≡ all
counts_begin None = refl
counts_begin (Some sources) = refl

-- one more segment with counts
pub counts_more : {F : Type 0} (xs : List (OpenedSegment F)) (i : ℕ) (x : OpenedSegment F) (made new : List CountsSource) (found : Option CountsSource) (y : CountsSource) (all : Option (List CountsSourceState)) → i < length xs → x ≡ get_or xs i x → new ≡ made ++ y ∷ []
    → found ≡ Some y → option_map opened_counts found ≡ counts_source_if x.counts (opened_view x)
    → after_counts (map opened_counts made) (counts_sources (drop i (map opened_view xs))) ≡ all → after_counts (map opened_counts new) (counts_sources (drop (i + 1) (map opened_view xs))) ≡ all
counts_more xs i x made new found y all inside is pushed some has so_far =
    let os = drop (i + 1) (map opened_view xs) in
    let own : Some (opened_counts y) ≡ counts_source_if x.counts (opened_view x) = ap (option_map opened_counts) (sym some) ∙ has in
    ap (λ (ys : List CountsSource). after_counts (map opened_counts ys) (counts_sources os)) pushed
    ∙ ap (λ (ss : List CountsSourceState). after_counts ss (counts_sources os)) (map-append opened_counts made (y ∷ []))
    ∙ by (map opened_counts made) (opened_counts y) (counts_sources os)
    ∙ ap (λ (o : Option CountsSourceState). after_counts (map opened_counts made) (with_first o (counts_sources os))) own
    ∙ ap (λ (ps : List OpenedSegmentState). after_counts (map opened_counts made) (counts_sources ps)) (sym (mapped_at opened_view xs i x inside is)) ∙ so_far
  where
    by : (done : List CountsSourceState) (s : CountsSourceState) (rest : Option (List CountsSourceState)) → after_counts (done ++ s ∷ []) rest ≡ after_counts done (with_first (Some s) rest)
    by done s None = refl
    by done s (Some sources) = ap (λ (ss : List CountsSourceState). Some ss) (append_assoc done (s ∷ []) sources)

-- a segment without counts
pub counts_none : {F : Type 0} (xs : List (OpenedSegment F)) (i : ℕ) (x : OpenedSegment F) (made : List CountsSource) (found : Option CountsSource) (all : Option (List CountsSourceState)) → i < length xs → x ≡ get_or xs i x
    → found ≡ None → option_map opened_counts found ≡ counts_source_if x.counts (opened_view x) → after_counts (map opened_counts made) (counts_sources (drop i (map opened_view xs))) ≡ all → None ≡ all
counts_none xs i x made found all inside is none has so_far =
    let own : None ≡ counts_source_if x.counts (opened_view x) = ap (option_map opened_counts) (sym none) ∙ has in
    ap (λ (o : Option CountsSourceState). after_counts (map opened_counts made) (with_first o (counts_sources (drop (i + 1) (map opened_view xs))))) own
    ∙ ap (λ (ps : List OpenedSegmentState). after_counts (map opened_counts made) (counts_sources ps)) (sym (mapped_at opened_view xs i x inside is)) ∙ so_far

-- Segments that were opened of those taken from a list.
pub record IsOpening {F : Type 0} (bytes : F → Option (List ℕ)) (entries : List SchemaEntry) (all taken rest : List (SegmentSource F)) (made : List (OpenedSegment F)) : Type 0 where
  pub whole : taken ++ rest ≡ all
  pub zip : AllZip (OpensFrom entries) (map (source_contents bytes) taken) (map opened_view made)

pub zip_more : {A B : Type 0} (R : A → B → Type 0) (xs : List A) (ys : List B) (x : A) (y : B) → AllZip R xs ys → R x y → AllZip R (xs ++ x ∷ []) (ys ++ y ∷ [])
zip_more R [] [] x y zip holds = (holds, tt)
zip_more R [] (b ∷ ys) x y zip holds = absurd zip
zip_more R (a ∷ xs) [] x y zip holds = absurd zip
zip_more R (a ∷ xs) (b ∷ ys) x y zip holds = (zip.0, zip_more R xs ys x y zip.1 holds)

pub opening_goes_on : {F : Type 0} (bytes : F → Option (List ℕ)) (entries : List SchemaEntry) (all taken before rest : List (SegmentSource F)) (made new : List (OpenedSegment F)) (x : SegmentSource F) (y : OpenedSegment F) → before ≡ x ∷ rest → new ≡ made ++ y ∷ []
    → opened_from entries (source_contents bytes x) ≡ Ok (opened_view y) → IsOpening bytes entries all taken before made → IsOpening bytes entries all (taken ++ x ∷ []) rest new
opening_goes_on bytes entries all taken before rest made new x y step pushed opens so_far = record {
  whole = append_assoc taken (x ∷ []) rest ∙ ap (λ (r : List (SegmentSource _)). taken ++ r) (sym step) ∙ so_far.whole;
  zip = subst (λ (os : List (OpenedSegment _)). AllZip (OpensFrom entries) (map (source_contents bytes) (taken ++ x ∷ [])) (map opened_view os)) (sym pushed)
      (subst (λ (cs : List SegmentContents). AllZip (OpensFrom entries) cs (map opened_view (made ++ y ∷ []))) (sym (map-append (source_contents bytes) taken (x ∷ [])))
      (subst (AllZip (OpensFrom entries) (map (source_contents bytes) taken ++ source_contents bytes x ∷ [])) (sym (map-append opened_view made (y ∷ [])))
      (zip_more (OpensFrom entries) (map (source_contents bytes) taken) (map opened_view made) (source_contents bytes x) (opened_view y) so_far.zip opens)));
}

-- what holds of each of the segments that are opened
pub all_at : {A : Type 0} (P : A → Type 0) (xs : List A) (x : A) (rest : List A) → AllByRecursion P (xs ++ x ∷ rest) → P x
all_at P [] x rest all = all.0
all_at P (y ∷ xs) x rest all = all_at P xs x rest all.1

pub all_more : {A : Type 0} (P : A → Type 0) (xs : List A) (x : A) → AllByRecursion P xs → P x → AllByRecursion P (xs ++ x ∷ [])
all_more P [] x all one = (one, tt)
all_more P (y ∷ xs) x all one = (all.0, all_more P xs x all.1 one)

-- the first segment that doesn't open
found_after : {A : Type 0} (xs : List A) (x : A) (rest : List A) (k : ℕ) → k ≡ length xs → slice_get (xs ++ x ∷ rest) k ≡ Some x
found_after [] x rest k is = ap (slice_get (x ∷ rest)) is
found_after (y ∷ xs) x rest zero is = absurd (omega (arith, is))
found_after (y ∷ xs) x rest (suc k) is = found_after xs x rest k (omega (arith, is))

opens_before : (entries : List SchemaEntry) (xs more : List SegmentContents) (os : List OpenedSegmentState) → AllZip (OpensFrom entries) xs os → AllByRecursion (IsOpenable entries) (take (length os) (xs ++ more))
opens_before entries [] more [] zip = tt
opens_before entries [] more (o ∷ os) zip = absurd zip
opens_before entries (x ∷ xs) more [] zip = absurd zip
opens_before entries (x ∷ xs) more (o ∷ os) zip = ((o, zip.0), opens_before entries xs more os zip.1)

same_many : {A B : Type 0} (R : A → B → Type 0) (xs : List A) (ys : List B) → AllZip R xs ys → length ys ≡ length xs
same_many R [] [] zip = refl
same_many R [] (y ∷ ys) zip = absurd zip
same_many R (x ∷ xs) [] zip = absurd zip
same_many R (x ∷ xs) (y ∷ ys) zip = ap suc (same_many R xs ys zip.1)

pub first_damaged : {F : Type 0} (bytes : F → Option (List ℕ)) (entries : List SchemaEntry) (all taken before rest : List (SegmentSource F)) (made : List (OpenedSegment F)) (x : SegmentSource F) (place : ℕ) (part : Part) → before ≡ x ∷ rest → place ≡ length made
    → opened_from entries (source_contents bytes x) ≡ Err part → IsOpening bytes entries all taken before made → IsFirstDamaged entries (map (source_contents bytes) all) place part
first_damaged bytes entries all taken before rest made x place part step at damaged so_far =
    let split : map (source_contents bytes) all ≡ map (source_contents bytes) taken ++ source_contents bytes x ∷ map (source_contents bytes) rest =
    ap (map (source_contents bytes)) (sym so_far.whole ∙ ap (λ (r : List (SegmentSource _)). taken ++ r) step) ∙ map-append (source_contents bytes) taken (x ∷ rest) in
    let many : place ≡ length (map opened_view made) = at ∙ sym (length-map made opened_view) in
    record {
      segment = source_contents bytes x;
      found = ap (λ (cs : List SegmentContents). slice_get cs place) split
          ∙ found_after (map (source_contents bytes) taken) (source_contents bytes x) (map (source_contents bytes) rest) place (many ∙ same_many (OpensFrom entries) (map (source_contents bytes) taken) (map opened_view made) so_far.zip);
      damaged = damaged;
      before = subst (λ (cs : List SegmentContents). AllByRecursion (IsOpenable entries) (take place cs)) (sym split)
          (subst (λ (k : ℕ). AllByRecursion (IsOpenable entries) (take k (map (source_contents bytes) taken ++ source_contents bytes x ∷ map (source_contents bytes) rest))) (sym many)
          (opens_before entries (map (source_contents bytes) taken) (source_contents bytes x ∷ map (source_contents bytes) rest) (map opened_view made) so_far.zip));
    }

-- the fault of the first segment that doesn't open
pub opening_refused : {F : Type 0} (bytes : F → Option (List ℕ)) (entries : List SchemaEntry) (all taken before rest : List (SegmentSource F)) (made : List (OpenedSegment F)) (x : SegmentSource F) (place : ℕ) (e : Fault) (fault : MergeFault) → before ≡ x ∷ rest → place ≡ length made
    → IsRefusal (opened_from entries (source_contents bytes x)) e → ((part : Part) → e ≡ Damaged part → fault ≡ faults.Segment place part) → (e ≡ OutOfMemory → fault ≡ faults.Merge OutOfMemory) → IsOpening bytes entries all taken before made
    → IsOpeningFault fault entries (map (source_contents bytes) all)
opening_refused bytes entries all taken before rest made x place e fault step at (inl memory) of_part of_memory so_far = rw (of_memory memory) refl
opening_refused bytes entries all taken before rest made x place e fault step at (inr (part, is, damaged)) of_part of_memory so_far = rw (of_part part is) (first_damaged bytes entries all taken before rest made x place part step at damaged so_far)

-- Segments whose files are opened, and what they hold.
use Rattle.std.proofs.Common.{◌≡◌, ℕ, zero, suc, ◌+◌, ◌<◌, Bool, true, false, List, [], ◌∷◌, length, map, Option, None, Some, Result, Ok, Err, inl, inr, refl, sym, ap, subst, ◌∙◌, arith, append-nil}
use Rattle.std.specs.Prelude.{IfErr, IfOk, IfSome, IsSome, IsSomeAnd, ok_or, replicate, slice_get, slice_index, sum}
use Rattle.std.specs.List.{AllByRecursion, AllZip}
use Rattle.std.specs.Option.{option_map}
use Rattle.std.proofs.lemmas.Bool.{eq-eqb}
use Rattle.ii_io.specs.declared.faults.Part.{Part}
use Rattle.ii_io.specs.declared.faults.Part.TheVariants.{Composite, TokenCount}
use Rattle.ii_io.specs.declared.faults.Fault.{Fault}
use Rattle.ii_io.specs.declared.faults.Fault.TheVariants.{Damaged, OutOfMemory}
use Rattle.ii_io.specs.Composite.{Body, composite}
use Rattle.ii_io.specs.Parts.{◌>>=◌}
use Rattle.ii_base.specs.Schema.{SchemaEntry}
use Rattle.ii_alive.specs.Alive.{num_living}
use Rattle.ii_alive.proofs.RankLemmas.{living_cons}
use Rattle.ii_counts.specs.CountsWriter.{count_bodies}
use Rattle.ii_counts_merger.specs.CountsSources.{CountsSourceHolds, HasCounts, counts_of_source}
use Rattle.ii_counts_merger.proofs.HoldLemmas.{counts_are}
use Rattle.ii_counts_merger.proofs.RowLemmas.{few_living}
use Rattle.ii_definitions.specs.Postings.{field_count}
use Rattle.ii_definitions.specs.Tokens.{IndexToken}
use Rattle.ii_reader.specs.InvertedIndexReader.{InvertedIndexReaderState, IsRefusal}
use Rattle.ii_reader.specs.OpenIndex.{FieldReaderHolds, OpenIndexState, ReadersHold, index_of_files}
use Rattle.ii_reader.proofs.IndexLemmas.{many_readers, opened_holds, opened_norms, refused_holds}
use Rattle.ii_segment_store.specs.Contents.{SegmentContents}
use Rattle.ii_segments.specs.HoldCounts.{field_counts}
use Rattle.ii_segments.specs.Segments.{Segment, index_tokens, living_counts, living_docs, living_tokens}
use Rattle.ii_segments.proofs.CountLaws.{counts_of_segments}
use Rattle.ii_segments.proofs.DocumentLaws.{shift_none}
use Rattle.ii_segments.proofs.MergeLaws.{all_alive}
use Rattle.nequllpa_merging.specs.HeldSegments.{HasCountsOf, HoldSegments, HoldsSegment, IsOpenedFor, OpenedHold, OpenedHolds}
use Rattle.nequllpa_merging.specs.MergedSegments.{counts_source}
use Rattle.nequllpa_merging.specs.OpenedSegments.{OpenedSegmentState, OpensFrom, bodies_of_counts, living_total, living_totals, opened_from, opened_view, tokens_of_reader}
use Rattle.nequllpa_merging.specs.declared.opening.OpenedSegment.{OpenedSegment}
use Rattle.nequllpa_merging.proofs.ResultLemmas.{found_are, none_missing}

-- ---- the parts of a segment that opens
pub record IsOpenedBy (entries : List SchemaEntry) (c : SegmentContents) (o : OpenedSegmentState) : Type 0 where
  pub index : index_of_files c.terms c.postings c.positions c.fieldnorms entries ≡ Ok o.index
  pub counts : bodies_of_counts c.counts ≡ Ok o.counts
  pub totals : living_totals (length entries) o.index o.counts c.alive ≡ Ok o.num_tokens
  pub alive : o.alive ≡ c.alive

abbrev finished : List Bool → OpenIndexState → Option (List Body) → Result (List ℕ) Part → Result OpenedSegmentState Part
finished alive i cs u = u >>= λ (ns : List ℕ). Ok (record { index = i; counts = cs; alive = alive; num_tokens = ns })

abbrev made_of : List Bool → Result OpenIndexState Part → Result (Option (List Body)) Part → (OpenIndexState → Option (List Body) → Result (List ℕ) Part) → Result OpenedSegmentState Part
made_of alive r s t = r >>= λ (i : OpenIndexState). s >>= λ (cs : Option (List Body)). finished alive i cs (t i cs)

record IsMadeOf (alive : List Bool) (r : Result OpenIndexState Part) (s : Result (Option (List Body)) Part) (t : OpenIndexState → Option (List Body) → Result (List ℕ) Part) (o : OpenedSegmentState) : Type 0 where
  index : r ≡ Ok o.index
  counts : s ≡ Ok o.counts
  totals : t o.index o.counts ≡ Ok o.num_tokens
  flags : o.alive ≡ alive

parts_made : (alive : List Bool) (r : Result OpenIndexState Part) (s : Result (Option (List Body)) Part) (t : OpenIndexState → Option (List Body) → Result (List ℕ) Part) (o : OpenedSegmentState) → made_of alive r s t ≡ Ok o → IsMadeOf alive r s t o
parts_made alive (Err part) s t o is = absurd (cc)
parts_made alive (Ok i) (Err part) t o is = absurd (cc)
parts_made alive (Ok i) (Ok cs) t o is = by (t i cs) refl is
  where
    by : (u : Result (List ℕ) Part) → t i cs ≡ u → finished alive i cs u ≡ Ok o → IsMadeOf alive (Ok i) (Ok cs) t o
    by (Err part) known is = absurd (cc)
    by (Ok ns) known is =
        let e : record { index = i; counts = cs; alive = alive; num_tokens = ns } ≡ o = cc in
        subst (IsMadeOf alive (Ok i) (Ok cs) t) e (record { index = refl; counts = refl; totals = known; flags = refl })

pub parts_of : (entries : List SchemaEntry) (c : SegmentContents) (o : OpenedSegmentState) → OpensFrom entries c o → IsOpenedBy entries c o
unfolding opened_from
parts_of entries c o is =
    let h = parts_made c.alive (index_of_files c.terms c.postings c.positions c.fieldnorms entries) (bodies_of_counts c.counts) (λ i cs. living_totals (length entries) i cs c.alive) o is in
    record { index = h.index; counts = h.counts; totals = h.totals; alive = h.flags }

pub opened_again : (entries : List SchemaEntry) (c : SegmentContents) (o : OpenedSegmentState) → IsOpenedBy entries c o → opened_from entries c ≡ Ok o
unfolding opened_from
opened_again entries c o h = rw (h.index, h.counts, h.totals) (ap (λ (alive : List Bool). Ok (record o { alive = alive })) (sym h.alive))

-- ---- why a segment doesn't open
pub index_refused : (entries : List SchemaEntry) (c : SegmentContents) (fault : Fault) → IsRefusal (index_of_files c.terms c.postings c.positions c.fieldnorms entries) fault → IsRefusal (opened_from entries c) fault
unfolding opened_from
index_refused entries c fault (inl memory) = inl memory
index_refused entries c fault (inr (part, is, failed)) = inr (part, is, rw failed refl)

pub counts_refused : (entries : List SchemaEntry) (c : SegmentContents) (index : OpenIndexState) (fault : Fault) → index_of_files c.terms c.postings c.positions c.fieldnorms entries ≡ Ok index → IsRefusal (bodies_of_counts c.counts) fault
    → IsRefusal (opened_from entries c) fault
unfolding opened_from
counts_refused entries c index fault known (inl memory) = inl memory
counts_refused entries c index fault known (inr (part, is, failed)) = inr (part, is, rw (known, failed) refl)

pub totals_refused : (entries : List SchemaEntry) (c : SegmentContents) (index : OpenIndexState) (counts : Option (List Body)) (fault : Fault) → index_of_files c.terms c.postings c.positions c.fieldnorms entries ≡ Ok index → bodies_of_counts c.counts ≡ Ok counts
    → IsRefusal (living_totals (length entries) index counts c.alive) fault → IsRefusal (opened_from entries c) fault
unfolding opened_from
totals_refused entries c index counts fault known more (inl memory) = inl memory
totals_refused entries c index counts fault known more (inr (part, is, failed)) = inr (part, is, rw (known, more, failed) refl)

-- the result of the last step
pub opened_result : {F : Type 0} (entries : List SchemaEntry) (c : SegmentContents) (index : OpenIndexState) (counts : Option (List Body)) (result : Result (OpenedSegment F) Fault) → index_of_files c.terms c.postings c.positions c.fieldnorms entries ≡ Ok index
    → bodies_of_counts c.counts ≡ Ok counts → IfOk result (λ o. living_totals (length entries) index counts c.alive ≡ Ok o.num_tokens.items) → IfOk result (λ o. (o.index ≡ index) × (o.counts ≡ counts) × (o.alive ≡ c.alive))
    → IfOk result (λ o. opened_from entries c ≡ Ok (opened_view o))
opened_result entries c index counts (Err e) known more totals same = tt
opened_result entries c index counts (Ok o) known more totals same =
    opened_again entries c (opened_view o) (record {
      index = known ∙ ap (λ (i : OpenIndexState). Ok i) (sym same.0);
      counts = more ∙ ap (λ (cs : Option (List Body)). Ok cs) (sym same.1);
      totals = ap (λ (i : OpenIndexState). living_totals (length entries) i o.counts c.alive) same.0 ∙ ap (λ (cs : Option (List Body)). living_totals (length entries) index cs c.alive) same.1 ∙ totals;
      alive = same.2;
    })

pub refused_result : {F : Type 0} (entries : List SchemaEntry) (c : SegmentContents) (index : OpenIndexState) (counts : Option (List Body)) (result : Result (OpenedSegment F) Fault) → index_of_files c.terms c.postings c.positions c.fieldnorms entries ≡ Ok index
    → bodies_of_counts c.counts ≡ Ok counts → IfErr result (IsRefusal (living_totals (length entries) index counts c.alive)) → IfErr result (IsRefusal (opened_from entries c))
refused_result entries c index counts (Ok o) known more refused = tt
refused_result entries c index counts (Err e) known more refused = totals_refused entries c index counts e known more refused

-- ---- numbers of tokens
abbrev pub total_in : OpenIndexState → Option (List Body) → List Bool → ℕ → Result ℕ Part
total_in index counts alive field = ok_or (living_total field index counts alive) TokenCount

some_total : (o : Option ℕ) (n : ℕ) → ok_or o TokenCount ≡ Ok n → o ≡ Some n
some_total None n is = absurd (cc)
some_total (Some m) n is = let e : m ≡ n = cc in ap Some e

has_counts : (field : ℕ) (index : OpenIndexState) (bodies : List Body) (alive : List Bool) (found : Option (List ℕ)) (n : ℕ) → option_map (λ (counts : List ℕ). sum (map (slice_index counts) (living_docs alive))) found ≡ Some n → IsSome found
has_counts field index bodies alive None n is = absurd (cc)
has_counts field index bodies alive (Some counts) n is = refl

-- an open segment has what it needs to be merged
pub opened_for : (entries : List SchemaEntry) (c : SegmentContents) (o : OpenedSegmentState) → OpensFrom entries c o → IsOpenedFor entries o
opened_for entries c o is =
    let h = parts_of entries c o is in
    let found = found_are (total_in o.index o.counts c.alive) 0 (length entries) o.num_tokens h.totals in
    record {
      readers = many_readers c.terms c.postings c.positions c.fieldnorms entries o.index h.index;
      totals = found.many;
      counted = by o.counts (λ field known. let same : 0 + field ≡ field = omega arith in
          subst (λ (alive : List Bool). living_total field o.index o.counts alive ≡ Some (slice_index o.num_tokens field)) (sym h.alive)
          (some_total (living_total field o.index o.counts c.alive) (slice_index o.num_tokens field) (ap (total_in o.index o.counts c.alive) (sym same) ∙ found.each field known)));
    }
  where
    by : (counts : Option (List Body)) → ((field : ℕ) → field < length entries → living_total field o.index counts o.alive ≡ Some (slice_index o.num_tokens field)) → IfSome counts (λ bodies. (field : ℕ) → field < length entries → HasCounts field (counts_source bodies o))
    by None each = tt
    by (Some bodies) each = λ field known. has_counts field o.index bodies o.alive (counts_of_source field (counts_source bodies o)) (slice_index o.num_tokens field) (each field known)

-- ---- segments none of whose documents was deleted
all_true : (alive : List Bool) → num_living alive ≡ length alive → alive ≡ replicate (length alive) true
all_true [] is = refl
all_true (true ∷ bs) is = ap (λ (cs : List Bool). true ∷ cs) (all_true bs (omega (arith, is, living_cons true bs)))
all_true (false ∷ bs) is = absurd (omega (arith, is, living_cons false bs, few_living bs))

-- its tokens are those of an index of it alone
pub all_tokens : (s : Segment) → num_living s.alive ≡ length s.alive → AllByRecursion (λ (t : IndexToken). t.doc < length s.alive) s.tokens → index_tokens (s ∷ []) ≡ s.tokens
all_tokens s all below =
    append-nil (living_tokens 0 s)
    ∙ ap (λ (alive : List Bool). living_tokens 0 (record { alive = alive; tokens = s.tokens })) (all_true s.alive all)
    ∙ all_alive 0 (length s.alive) s.tokens below ∙ shift_none s.tokens

pub all_counted : (field : ℕ) (s : Segment) → num_living s.alive ≡ length s.alive → AllByRecursion (λ (t : IndexToken). t.doc < length s.alive) s.tokens → field_count field s.tokens ≡ sum (living_counts field s)
all_counted field s all below =
    ap (field_count field) (sym (all_tokens s all below)) ∙ (counts_of_segments field (s ∷ [])).total ∙ ap sum (append-nil (living_counts field s))

-- ---- what is held
bodies_in : (r : Option (List Body)) (found : Option (List Body)) (bodies : List Body) → r ≡ Some bodies → ok_or (option_map (λ (b : List Body). Some b) r) Composite ≡ Ok found → found ≡ Some bodies
bodies_in None found bodies known is = absurd (cc)
bodies_in (Some b) found bodies known is = let e : Some b ≡ found = cc in sym e ∙ known

counts_held : (entries : List SchemaEntry) (file : Option (List ℕ)) (found : Option (List Body)) (alive : List Bool) (s : Segment) → bodies_of_counts file ≡ Ok found → HasCountsOf entries file s → alive ≡ s.alive
    → IfSome found (λ bodies. CountsSourceHolds entries (record { counts = bodies; alive = alive }) s)
counts_held entries None found alive s is h same = let e : None ≡ found = cc in rw (← e) tt
counts_held entries (Some bytes) found alive s is h same =
    rw (bodies_in (composite bytes) found _ h.opened is) (record { bytes = bytes; opened_is = h.opened; counts = h; alive = same })

reader_total : (entries : List SchemaEntry) (field : ℕ) (ts : List IndexToken) (o : Option InvertedIndexReaderState) → IsSomeAnd o (λ r. FieldReaderHolds entries field r ts) → tokens_of_reader o ≡ Some (field_count field ts)
reader_total entries field ts None h = absurd h
reader_total entries field ts (Some r) h = ap Some h.holds.counted

total_held : (entries : List SchemaEntry) (field : ℕ) (index : OpenIndexState) (file : Option (List ℕ)) (found : Option (List Body)) (s : Segment) → field < length entries → bodies_of_counts file ≡ Ok found → HasCountsOf entries file s
    → ReadersHold entries index.readers s.tokens → AllByRecursion (λ (t : IndexToken). t.doc < length s.alive) s.tokens → living_total field index found s.alive ≡ Some (sum (living_counts field s))
total_held entries field index None found s known is h readers below =
    let e : None ≡ found = cc in
    rw (← e, eq-eqb (num_living s.alive) (length s.alive) h) (reader_total entries field s.tokens (slice_get index.readers field) (readers field known) ∙ ap Some (all_counted field s h below))
total_held entries field index (Some bytes) found s known is h readers below =
    let bodies = bodies_in (composite bytes) found _ h.opened is in
    let held = count_bodies (field_counts entries (length s.alive) s.tokens) in
    let source : CountsSourceHolds entries (record { counts = held; alive = s.alive }) s = record { bytes = bytes; opened_is = h.opened; counts = h; alive = refl } in
    rw (bodies, counts_are entries field (record { counts = held; alive = s.alive }) s known source) refl

pub segment_held : (entries : List SchemaEntry) (c : SegmentContents) (o : OpenedSegmentState) (s : Segment) → HoldsSegment entries c s → OpensFrom entries c o → OpenedHolds entries o s
segment_held entries c o s h is =
    let p = parts_of entries c o is in
    let readers = opened_holds entries c.terms c.postings c.positions c.fieldnorms s.tokens o.index h.lists p.index in
    let norms = opened_norms entries c.terms c.postings c.positions c.fieldnorms (length s.alive) s.tokens o.index h.norms p.index in
    let same : o.alive ≡ s.alive = p.alive ∙ h.alive in
    let found = found_are (total_in o.index o.counts c.alive) 0 (length entries) o.num_tokens p.totals in
    record {
      source = record { index = record { readers = readers; norms = norms }; alive = same; tokens = h.are };
      counts = counts_held entries c.counts o.counts o.alive s p.counts h.counts same;
      totals = λ field known.
          let zero : 0 + field ≡ field = omega arith in
          let total = some_total (living_total field o.index o.counts c.alive) (slice_index o.num_tokens field) (ap (total_in o.index o.counts c.alive) (sym zero) ∙ found.each field known) in
          let held = total_held entries field o.index c.counts o.counts s known p.counts h.counts readers h.are.below in
          inside _ _ (sym total ∙ ap (living_total field o.index o.counts) h.alive ∙ held);
    }
  where
    inside : (m n : ℕ) → ◌≡◌ {A = Option ℕ} (Some m) (Some n) → m ≡ n
    inside m n e = cc

-- a segment that holds tokens opens
missing_part : (alive : List Bool) (r : Result OpenIndexState Part) (s : Result (Option (List Body)) Part) (t : OpenIndexState → Option (List Body) → Result (List ℕ) Part) (part : Part) → made_of alive r s t ≡ Err part
    → ((p : Part) → r ≡ Err p → ⊥) → ((p : Part) → s ≡ Err p → ⊥) → ((i : OpenIndexState) (cs : Option (List Body)) (p : Part) → r ≡ Ok i → s ≡ Ok cs → t i cs ≡ Err p → ⊥) → ⊥
missing_part alive (Err p) s t part is no_index no_counts no_totals = no_index p refl
missing_part alive (Ok i) (Err p) t part is no_index no_counts no_totals = no_counts p refl
missing_part alive (Ok i) (Ok cs) t part is no_index no_counts no_totals = by (t i cs) refl is
  where
    by : (u : Result (List ℕ) Part) → t i cs ≡ u → finished alive i cs u ≡ Err part → ⊥
    by (Err p) known is = no_totals i cs p refl refl known
    by (Ok ns) known is = absurd (cc)

counts_open : (entries : List SchemaEntry) (file : Option (List ℕ)) (s : Segment) (p : Part) → HasCountsOf entries file s → bodies_of_counts file ≡ Err p → ⊥
counts_open entries None s p h is = absurd (cc)
counts_open entries (Some bytes) s p h is = by (composite bytes) (count_bodies (field_counts entries (length s.alive) s.tokens)) h.opened is
  where
    by : (r : Option (List Body)) (bodies : List Body) → r ≡ Some bodies → ok_or (option_map (λ (b : List Body). Some b) r) Composite ≡ Err p → ⊥
    by None bodies known is = absurd (cc)
    by (Some b) bodies known is = absurd (cc)

pub segment_opens : (entries : List SchemaEntry) (c : SegmentContents) (s : Segment) (part : Part) → HoldsSegment entries c s → opened_from entries c ≡ Err part → ⊥
unfolding opened_from
segment_opens entries c s part h is =
    missing_part c.alive (index_of_files c.terms c.postings c.positions c.fieldnorms entries) (bodies_of_counts c.counts) (λ i cs. living_totals (length entries) i cs c.alive) part is
    (λ p failed. memory p (refused_holds entries c.terms c.postings c.positions c.fieldnorms s.tokens (Damaged p) h.lists (rw h.norms.opened refl) (inr (p, refl, failed))))
    (λ p failed. counts_open entries c.counts s p h.counts failed)
    (λ index counts p known more failed. none_missing (total_in index counts c.alive) (λ field. sum (living_counts field s)) 0 (length entries) p
    (λ field low.
    let zero : 0 + field ≡ field = omega arith in
    let readers = opened_holds entries c.terms c.postings c.positions c.fieldnorms s.tokens index h.lists known in
    ap (λ (k : ℕ). total_in index counts c.alive k) zero ∙ ap (λ (alive : List Bool). total_in index counts alive field) h.alive
    ∙ ap (λ (o : Option ℕ). ok_or o TokenCount) (total_held entries field index c.counts counts s low more h.counts readers h.are.below)) failed)
  where
    memory : (p : Part) → Damaged p ≡ OutOfMemory → ⊥
    memory p e = absurd (cc)

-- ---- segments one after the other
pub segments_held : (entries : List SchemaEntry) (cs : List SegmentContents) (os : List OpenedSegmentState) (ss : List Segment) → HoldSegments entries cs ss → AllZip (OpensFrom entries) cs os → OpenedHold entries os ss
segments_held entries [] [] [] h opens = tt
segments_held entries [] (o ∷ os) ss h opens = absurd opens
segments_held entries [] [] (s ∷ ss) h opens = absurd h
segments_held entries (c ∷ cs) [] ss h opens = absurd opens
segments_held entries (c ∷ cs) (o ∷ os) [] h opens = absurd h
segments_held entries (c ∷ cs) (o ∷ os) (s ∷ ss) h opens = (segment_held entries c o s h.0 opens.0, segments_held entries cs os ss h.1 opens.1)

pub all_opened_for : (entries : List SchemaEntry) (cs : List SegmentContents) (os : List OpenedSegmentState) → AllZip (OpensFrom entries) cs os → AllByRecursion (IsOpenedFor entries) os
all_opened_for entries [] [] opens = tt
all_opened_for entries [] (o ∷ os) opens = absurd opens
all_opened_for entries (c ∷ cs) [] opens = absurd opens
all_opened_for entries (c ∷ cs) (o ∷ os) opens = (opened_for entries c o opens.0, all_opened_for entries cs os opens.1)

pub none_damaged : (entries : List SchemaEntry) (cs : List SegmentContents) (ss : List Segment) (place : ℕ) (c : SegmentContents) (part : Part) → HoldSegments entries cs ss → slice_get cs place ≡ Some c → opened_from entries c ≡ Err part → ⊥
none_damaged entries [] ss place c part h found damaged = absurd (cc)
none_damaged entries (x ∷ cs) [] place c part h found damaged = absurd h
none_damaged entries (x ∷ cs) (s ∷ ss) zero c part h found damaged = let e : x ≡ c = cc in segment_opens entries c s part (subst (λ (y : SegmentContents). HoldsSegment entries y s) e h.0) damaged
none_damaged entries (x ∷ cs) (s ∷ ss) (suc place) c part h found damaged = none_damaged entries cs ss place c part h.1 found damaged

-- Segments one after the other, and the fields that are merged from them.
use Rattle.std.proofs.Common.{inl, inr, ◌≡◌, ℕ, zero, suc, ◌+◌, ◌-◌, ◌^◌, ◌<◌, ◌≤◌, ◌==◌, Bool, true, false, List, [], ◌∷◌, ◌++◌, drop, get_or, length, map, Option, Some, None, Result, Ok, Err, refl, sym, ap, ◌∙◌, subst, arith, append_assoc, length-append, nat_eq, ⊎_elim}
use Rattle.std.specs.Prelude.{◌⊎◌, ◌||◌, IfSome, IsSomeAnd, OnOk, is_some, nat_le, nat_lt, slice_get}
use Rattle.std.specs.List.{AllByRecursion, find, list_any}
use Rattle.std.specs.Option.{option_map}
use Rattle.std.proofs.lemmas.Bool.{cases_lt, eqb-true, eqb-false, le-leb, lt-ltb, ne_eqb}
use Rattle.std.proofs.lemmas.List.{map-append}
use Rattle.ii_io.specs.declared.faults.Fault.{Fault}
use Rattle.ii_io.specs.declared.faults.Fault.TheVariants.{Damaged, OutOfMemory}
use Rattle.ii_io.specs.declared.composite_file.place.BodyStart.{BodyStart}
use Rattle.ii_io.specs.declared.faults.Part.TheVariants.{FieldNorms}
use Rattle.ii_io.specs.Composite.{Body, body_of, composite, fit_fields, written_composite}
use Rattle.ii_io.specs.CompositeWrite.{AddsBody, CompositeWriteState, HasBodies, has_start}
use Rattle.ii_io.specs.CountingWriter.{CountingWriterState}
use Rattle.ii_io.proofs.CompositeSteps.{HasBodies-more}
use Rattle.ii_definitions.specs.Fields.{option_of}
use Rattle.ii_definitions.specs.Files.{HasField, HoldTokens, HoldsField}
use Rattle.ii_definitions.specs.Postings.{field_count}
use Rattle.ii_definitions.specs.Tokens.{IndexToken}
use Rattle.ii_definitions.specs.TrueBounds.{HasTrueTerms, HaveTrueBodies}
use Rattle.ii_base.specs.declared.doc_id.TheConstants.{TERMINATED}
use Rattle.ii_base.specs.Schema.{SchemaEntry}
use Rattle.ii_fieldnorm.specs.Readers.{Norms, norms_of_ids}
use Rattle.ii_layout.proofs.BoundLemmas.{all_push}
use Rattle.ii_reader.specs.InvertedIndexReader.{InvertedIndexReaderState}
use Rattle.ii_reader.specs.OpenIndex.{FieldReaderHolds}
use Rattle.ii_recorder.specs.IndexBodies.{AddsBodies, IndexBodiesState, LacksField}
use Rattle.ii_recorder.specs.Terms.{FieldBodies}
use Rattle.ii_segments.specs.Segments.{Segment}
use Rattle.ii_merger.specs.MergeSources.{FieldSourceState, living_in_sources}
use Rattle.ii_merger.specs.MergedField.{WroteMergedField}
use Rattle.ii_merger.specs.MergedIndex.{AreNormsOf, FieldsBelow, HasMergedFields, HasTruePart, MergeSourceState, MergeSourcesHold, MergedPart, StartsBelow, all_living, field_of_segment, field_sources, has_part, norms_of_field, positions_body_of, postings_body_of, opened_segment, terms_body_of}
use Rattle.ii_merger.specs.MergedTerm.{CoversBelow}
use Rattle.ii_merger.specs.SourcesHold.{SourceHolds, SourcesHold, WroteField}
use Rattle.ii_merger.specs.declared.merge_source.MergeSource.{MergeSource}
use Rattle.ii_definitions.proofs.GroupedLaws.{count_none}
use Rattle.ii_definitions.proofs.ListLaws.{all_drop, mapped_at}
use Rattle.std.proofs.Math.Bool.{or-false}

-- what holds of all segments holds of the next one
pub each_segment : (P : MergeSourceState → Type 0) (xs : List MergeSource) (i : ℕ) (x : MergeSource) → i < length xs → x ≡ get_or xs i x → AllByRecursion P (map opened_segment xs) → P (opened_segment x)
each_segment P xs i x inside is all = (subst (AllByRecursion P) (mapped_at opened_segment xs i x inside is) (all_drop P i (map opened_segment xs) all)).0

-- a field of the next segment
pub field_at : (field : ℕ) (xs : List MergeSource) (i : ℕ) (x : MergeSource) (own : FieldSourceState) (before : List FieldSourceState) → i < length xs → x ≡ get_or xs i x → slice_get x.index.now.readers field ≡ Some own.reader → own.alive ≡ x.alive.now
    → before ++ field_sources field (drop i (map opened_segment xs)) ≡ field_sources field (map opened_segment xs) → (before ++ own ∷ []) ++ field_sources field (drop (i + 1) (map opened_segment xs)) ≡ field_sources field (map opened_segment xs)
field_at field xs i x own before inside is reader alive all =
    let here : own ≡ field_of_segment field (opened_segment x) = rw (reader, ← alive) refl in
    append_assoc before (own ∷ []) (field_sources field (drop (i + 1) (map opened_segment xs)))
    ∙ ap (λ (s : FieldSourceState). before ++ s ∷ field_sources field (drop (i + 1) (map opened_segment xs))) here
    ∙ ap (λ (ss : List MergeSourceState). before ++ field_sources field ss) (sym (mapped_at opened_segment xs i x inside is))
    ∙ all

pub same_living : (field : ℕ) (ss : List MergeSourceState) → living_in_sources (field_sources field ss) ≡ all_living ss
same_living field [] = refl
same_living field (s ∷ ss) = ap (λ (n : ℕ). Rattle.ii_alive.specs.Alive.num_living s.alive + n) (same_living field ss)

-- a field of segments that hold tokens
pub fields_hold : (entries : List SchemaEntry) (field : ℕ) (opened : List MergeSourceState) (ss : List Segment) → field < length entries → MergeSourcesHold entries opened ss → SourcesHold entries field (field_sources field opened) ss
fields_hold entries field [] [] known hold = tt
fields_hold entries field [] (s ∷ ss) known hold = absurd (hold)
fields_hold entries field (c ∷ cs) [] known hold = absurd (hold)
fields_hold entries field (c ∷ cs) (s ∷ ss) known hold = (by (slice_get c.index.readers field) refl (hold.0.index.readers field known), fields_hold entries field cs ss known hold.1)
  where
    by : (o : Option InvertedIndexReaderState) → slice_get c.index.readers field ≡ o → IsSomeAnd o (λ reader. FieldReaderHolds entries field reader s.tokens) → SourceHolds entries field (field_of_segment field c) s
    by None is h = absurd (h)
    by (Some reader) is h = record { reader = rw is h; alive = hold.0.alive; tokens = hold.0.tokens }

-- the norms of a field cover all documents
pub norms_cover : (field num_docs : ℕ) (bodies : List Body) (norms : Option Norms) → norms ≡ norms_of_field bodies field → AreNormsOf num_docs bodies → CoversBelow norms num_docs
norms_cover field num_docs bodies norms is are = subst (λ (n : Option Norms). CoversBelow n num_docs) (sym is) (by (body_of field bodies) (are field))
  where
    by : (o : Option (List ℕ)) → IfSome o (λ ids. length ids ≡ num_docs) → CoversBelow (Rattle.std.specs.Option.option_map norms_of_ids o) num_docs
    by None h doc low = tt
    by (Some ids) h doc low = inr (omega (arith, low, h))

-- ---- fields below a number
pub none_started : (n : ℕ) (starts : List BodyStart) → AllByRecursion (λ (s : BodyStart). s.field < n) starts → has_start n starts ≡ false
none_started n [] below = refl
none_started n (s ∷ ss) below =
    let other : nat_eq s.field n ≡ false = ne_eqb s.field n (λ same. absurd (omega (arith, same, below.0))) in
    rw other (none_started n ss below.1)

pub lacks_field : (n limit : ℕ) (b : IndexBodiesState) → n < limit → limit < 2 ^ 32 - 1 → FieldsBelow n b → LacksField n b
lacks_field n limit b low few h = record {
  terms = none_started n b.terms.starts h.terms.below;
  postings = none_started n b.postings.starts h.postings.below;
  positions = none_started n b.positions.starts h.positions.below;
  few_terms = omega (arith, low, few, h.terms.few);
  few_postings = omega (arith, low, few, h.postings.few);
  few_positions = omega (arith, low, few, h.positions.few);
}

pub raised : (n : ℕ) (starts : List BodyStart) → AllByRecursion (λ (s : BodyStart). s.field < n) starts → AllByRecursion (λ (s : BodyStart). s.field < n + 1) starts
raised n [] below = tt
raised n (s ∷ ss) below = (omega (arith, below.0), raised n ss below.1)

pub starts_more : (n : ℕ) (old new : CompositeWriteState) (bytes : List ℕ) → StartsBelow n old → AddsBody old new n bytes → StartsBelow (n + 1) new
starts_more n old new bytes h adds = rw adds.starts (record {
  below = all_push (λ (s : BodyStart). s.field < n + 1) old.starts _ (raised n old.starts h.below) (omega arith);
  few = omega (arith, h.few, length-append old.starts (Rattle.ii_io.specs.CompositeWrite.next_start old n ∷ []));
})

pub fields_more : (n : ℕ) (old new : IndexBodiesState) (bodies : FieldBodies) → FieldsBelow n old → AddsBodies old new n bodies → FieldsBelow (n + 1) new
fields_more n old new bodies h adds = record {
  terms = starts_more n old.terms new.terms bodies.terms h.terms adds.terms;
  postings = starts_more n old.postings new.postings bodies.postings h.postings adds.postings;
  positions = starts_more n old.positions new.positions bodies.positions h.positions adds.positions;
}

pub fields_raised : (n : ℕ) (b : IndexBodiesState) → FieldsBelow n b → FieldsBelow (n + 1) b
fields_raised n b h = record {
  terms = record { below = raised n b.terms.starts h.terms.below; few = omega (arith, h.terms.few) };
  postings = record { below = raised n b.postings.starts h.postings.below; few = omega (arith, h.postings.few) };
  positions = record { below = raised n b.positions.starts h.positions.below; few = omega (arith, h.positions.few) };
}

pub all_below : (n : ℕ) (ss : List MergeSourceState) (field : ℕ) → field < n → AllByRecursion (λ (s : MergeSourceState). length s.index.readers ≡ n) ss → AllByRecursion (λ (s : MergeSourceState). field < length s.index.readers) ss
all_below n [] field low all = tt
all_below n (s ∷ ss) field low all = (omega (arith, low, all.0), all_below n ss field low all.1)

-- norms that were opened are short
pub short_norms : (field num_docs : ℕ) (bodies : List Body) (e : Fault) → AreNormsOf num_docs bodies → num_docs ≤ TERMINATED → (e ≡ OutOfMemory) ⊎ (e ≡ Damaged FieldNorms) → ((e ≡ Damaged FieldNorms) → IsSomeAnd (body_of field bodies) (λ ids. 2 ^ 32 ≤ length ids)) → e ≡ OutOfMemory
short_norms field num_docs bodies e are few (inl memory) long = memory
short_norms field num_docs bodies e are few (inr damaged) long = by (body_of field bodies) (are field) (long damaged)
  where
    by : (o : Option (List ℕ)) → IfSome o (λ ids. length ids ≡ num_docs) → IsSomeAnd o (λ ids. 2 ^ 32 ≤ length ids) → e ≡ OutOfMemory
    by None h far = absurd (far)
    by (Some ids) h far = absurd (omega (arith, h, far, few))

-- ---- one field after the other
-- what a field without tokens, or with some, leaves
pub below_after : (n total : ℕ) (entries : List SchemaEntry) (norms : Option Norms) (sources : List FieldSourceState) (old new : IndexBodiesState) (r : Result (Unit {0}) Fault) → (total ≡ 0 → OnOk r (new ≡ old)) → (0 < total → OnOk r (WroteMergedField entries n total norms sources old new))
    → FieldsBelow n old → OnOk r (FieldsBelow (n + 1) new)
below_after n total entries norms sources old new (Err e) none wrote h = tt
below_after n zero entries norms sources old new (Ok u) none wrote h = subst (FieldsBelow (n + 1)) (sym (none refl)) (fields_raised n old h)
below_after n (suc total) entries norms sources old new (Ok u) none wrote h = let w = wrote (omega arith) in fields_more n old new _ h w.adds

any_more : (f : MergedPart → Bool) (ps : List MergedPart) (p : MergedPart) → list_any f (ps ++ p ∷ []) ≡ (list_any f ps || f p)
any_more f [] p = or_none (f p)
  where
    or_none : (b : Bool) → (b || false) ≡ (false || b)
    or_none true = refl
    or_none false = refl
any_more f (q ∷ ps) p = ap (λ (b : Bool). f q || b) (any_more f ps p) ∙ or_more (f q) (list_any f ps) (f p)
  where
    or_more : (a b c : Bool) → (a || (b || c)) ≡ ((a || b) || c)
    or_more true b c = refl
    or_more false b c = refl

no_part : (n field : ℕ) (ps : List MergedPart) → AllByRecursion (λ (p : MergedPart). p.field < n) ps → n ≤ field → has_part field ps ≡ false
no_part n field [] below high = refl
no_part n field (p ∷ ps) below high =
    let other : nat_eq p.field field ≡ false = ne_eqb p.field field (λ same. absurd (omega (arith, same, below.0, high))) in
    rw other (no_part n field ps below.1 high)

parts_raised : (n : ℕ) (ps : List MergedPart) → AllByRecursion (λ (p : MergedPart). p.field < n) ps → AllByRecursion (λ (p : MergedPart). p.field < n + 1) ps
parts_raised n [] below = tt
parts_raised n (p ∷ ps) below = (omega (arith, below.0), parts_raised n ps below.1)

some_count : (n : ℕ) → 0 < n → nat_lt 0 n ≡ true
some_count n some = lt-ltb 0 n some

module _ (entries : List SchemaEntry) (initial : IndexBodiesState) (n : ℕ) (norms : List Body) (ts : List IndexToken) where
  skipped : (now : IndexBodiesState) → HasMergedFields entries initial now n norms ts → field_count n ts ≡ 0 → HasMergedFields entries initial now (n + 1) norms ts
  skipped now h none = record { parts = h.parts; below = parts_raised n h.parts h.below; terms = h.terms; postings = h.postings; positions = h.positions; present = λ field low. by field (nat_eq field n) refl low; holds = h.holds; bounds = h.bounds }
    where
      by : (field : ℕ) (b : Bool) → nat_eq field n ≡ b → field < n + 1 → has_part field h.parts ≡ nat_lt 0 (field_count field ts)
      by field true same low =
          let is : field ≡ n = eqb-true field n same in
          no_part n field h.parts h.below (omega (arith, is)) ∙ sym (ap (λ (k : ℕ). nat_lt 0 (field_count k ts)) is ∙ ap (nat_lt 0) none)
      by field false other low = h.present field (omega (arith, low, eqb-false field n other))

  module _ (old new : IndexBodiesState) (h : HasMergedFields entries initial old n norms ts) (w : WroteField entries old new n (norms_of_field norms n) ts) (some : 0 < field_count n ts) where
    abbrev own_part : MergedPart
    own_part = record { field = n; bodies = w.bodies }

    bodies_more : (body : MergedPart → Body) (writer : CountingWriterState) (c d : CompositeWriteState) (bytes : List ℕ) → HasBodies writer c (map body h.parts) → AddsBody c d n bytes → body own_part ≡ record { field = n; bytes = bytes } → HasBodies writer d (map body (h.parts ++ own_part ∷ []))
    bodies_more body writer c d bytes has adds is =
        subst (HasBodies writer d) (sym (map-append body h.parts (own_part ∷ []) ∙ ap (λ (b : Body). map body h.parts ++ b ∷ []) is)) (HasBodies-more writer c d (map body h.parts) n bytes has adds)

    added : HasMergedFields entries initial new (n + 1) norms ts
    added = record {
      parts = h.parts ++ own_part ∷ [];
      below = all_push (λ (p : MergedPart). p.field < n + 1) h.parts own_part (parts_raised n h.parts h.below) (omega arith);
      terms = bodies_more terms_body_of initial.terms.writer old.terms new.terms w.bodies.terms h.terms w.adds.terms refl;
      postings = bodies_more postings_body_of initial.postings.writer old.postings new.postings w.bodies.postings h.postings w.adds.postings refl;
      positions = bodies_more positions_body_of initial.positions.writer old.positions new.positions w.bodies.positions h.positions w.adds.positions refl;
      present = λ field low. any_more (λ (p : MergedPart). p.field == field) h.parts own_part ∙ by field (nat_eq n field) refl low;
      holds = all_push (λ (p : MergedPart). HoldsField (option_of entries p.field) p.field p.bodies.terms p.bodies.postings p.bodies.positions ts) h.parts own_part h.holds w.holds;
      bounds = all_push (HasTruePart entries norms) h.parts own_part h.bounds (record { each = w.bounds });
    }
      where
        by : (field : ℕ) (b : Bool) → nat_eq n field ≡ b → field < n + 1 → (has_part field h.parts || (n == field)) ≡ nat_lt 0 (field_count field ts)
        by field true same low =
            let is : n ≡ field = eqb-true n field same in
            let none : has_part field h.parts ≡ false = no_part n field h.parts h.below (omega (arith, is)) in
            rw (none, same) (sym (ap (λ (k : ℕ). nat_lt 0 (field_count k ts)) (sym is) ∙ some_count (field_count n ts) some))
        by field false other low =
            let here = h.present field (omega (arith, low, eqb-false n field other)) in
            ap (λ (b : Bool). has_part field h.parts || b) other ∙ or-false (has_part field h.parts) ∙ here

  pub field_merged : (old new : IndexBodiesState) (total : ℕ) → HasMergedFields entries initial old n norms ts → total ≡ field_count n ts → (total ≡ 0 → new ≡ old) → (total ≡ field_count n ts → 0 < total → WroteField entries old new n (norms_of_field norms n) ts) → HasMergedFields entries initial new (n + 1) norms ts
  field_merged old new zero h counted none wrote = skipped new (subst (λ (b : IndexBodiesState). HasMergedFields entries initial b n norms ts) (sym (none refl)) h) (sym counted)
  field_merged old new (suc total) h counted none wrote = added old new h (wrote counted (omega arith)) (omega (arith, counted))

-- ---- the files of all fields
find_is : (field : ℕ) (body : MergedPart → Body) (bytes : MergedPart → List ℕ) → ((p : MergedPart) → (body p).field ≡ p.field) → ((p : MergedPart) → (body p).bytes ≡ bytes p) → (ps : List MergedPart)
    → body_of field (map body ps) ≡ option_map bytes (find (λ (p : MergedPart). p.field == field) ps)
find_is field body bytes same are [] = refl
find_is field body bytes same are (p ∷ ps) = by (nat_eq p.field field) refl (find_is field body bytes same are ps)
  where
    by : (b : Bool) → nat_eq p.field field ≡ b → body_of field (map body ps) ≡ option_map bytes (find (λ (p : MergedPart). p.field == field) ps) → body_of field (map body (p ∷ ps)) ≡ option_map bytes (find (λ (p : MergedPart). p.field == field) (p ∷ ps))
    by true is others =
        let own : nat_eq (body p).field field ≡ true = ap (λ (f : ℕ). nat_eq f field) (same p) ∙ is in
        rw (own, is) (ap Some (are p))
    by false is others =
        let own : nat_eq (body p).field field ≡ false = ap (λ (f : ℕ). nat_eq f field) (same p) ∙ is in
        rw (own, is) others

some_found : (field : ℕ) (bytes : MergedPart → List ℕ) (ps : List MergedPart) → is_some (option_map bytes (find (λ (p : MergedPart). p.field == field) ps)) ≡ has_part field ps
some_found field bytes [] = refl
some_found field bytes (p ∷ ps) = by (nat_eq p.field field) refl (some_found field bytes ps)
  where
    by : (b : Bool) → nat_eq p.field field ≡ b → is_some (option_map bytes (find (λ (p : MergedPart). p.field == field) ps)) ≡ has_part field ps → is_some (option_map bytes (find (λ (p : MergedPart). p.field == field) (p ∷ ps))) ≡ has_part field (p ∷ ps)
    by true is others = rw is refl
    by false is others = rw is others

-- What is known of the part of a field.
record IsFound (P : MergedPart → Type 0) (field : ℕ) (p : MergedPart) : Type 0 where
  is : p.field ≡ field
  holds : P p

found_part : (P : MergedPart → Type 0) (field : ℕ) (ps : List MergedPart) (p : MergedPart) → AllByRecursion P ps → find (λ (p : MergedPart). p.field == field) ps ≡ Some p → IsFound P field p
found_part P field [] p all is = absurd (cc)
found_part P field (q ∷ ps) p all is = by (nat_eq q.field field) refl (found_part P field ps p all.1)
  where
    by : (b : Bool) → nat_eq q.field field ≡ b → (find (λ (p : MergedPart). p.field == field) ps ≡ Some p → IsFound P field p) → IsFound P field p
    by true same others =
        let first : Some q ≡ Some p = rw same at is in
        let own : q ≡ p = cc in
        record { is = ap (λ (r : MergedPart). r.field) (sym own) ∙ eqb-true q.field field same; holds = subst P own all.0 }
    by false other others = others (rw other at is)

module _ (entries : List SchemaEntry) (initial now : IndexBodiesState) (norms : List Body) (ts : List IndexToken) (h : HasMergedFields entries initial now (length entries) norms ts) (known : AllByRecursion (λ (t : IndexToken). t.field < length entries) ts) where
  all_present : (field : ℕ) → has_part field h.parts ≡ nat_lt 0 (field_count field ts)
  all_present field = ⊎_elim (λ (low : field < length entries). h.present field low)
      (λ (high : length entries ≤ field). no_part (length entries) field h.parts h.below high ∙ sym (ap (nat_lt 0) (count_none field (length entries) ts known high))) (cases_lt field (length entries))

  body_present : (body : MergedPart → Body) (bytes : MergedPart → List ℕ) → ((p : MergedPart) → (body p).field ≡ p.field) → ((p : MergedPart) → (body p).bytes ≡ bytes p) → (field : ℕ) → HasField field (map body h.parts) ts
  body_present body bytes same are field = ap is_some (find_is field body bytes same are h.parts) ∙ some_found field bytes h.parts ∙ all_present field

  held : (field : ℕ) (t p q : List ℕ) → body_of field (map terms_body_of h.parts) ≡ Some t → body_of field (map postings_body_of h.parts) ≡ Some p → body_of field (map positions_body_of h.parts) ≡ Some q → HoldsField (option_of entries field) field t p q ts
  held field t p q is_t is_p is_q =
      by (find (λ (r : MergedPart). r.field == field) h.parts) refl
      (sym (find_is field terms_body_of (λ r. r.bodies.terms) (λ r. refl) (λ r. refl) h.parts) ∙ is_t) (sym (find_is field postings_body_of (λ r. r.bodies.postings) (λ r. refl) (λ r. refl) h.parts) ∙ is_p) (sym (find_is field positions_body_of (λ r. r.bodies.positions) (λ r. refl) (λ r. refl) h.parts) ∙ is_q)
    where
      Holds : MergedPart → Type 0
      Holds r = HoldsField (option_of entries r.field) r.field r.bodies.terms r.bodies.postings r.bodies.positions ts

      by : (o : Option MergedPart) → find (λ (r : MergedPart). r.field == field) h.parts ≡ o → option_map (λ r. r.bodies.terms) o ≡ Some t → option_map (λ r. r.bodies.postings) o ≡ Some p → option_map (λ r. r.bodies.positions) o ≡ Some q → HoldsField (option_of entries field) field t p q ts
      by None found a b c = absurd (cc)
      by (Some r) found a b c =
          let own = found_part Holds field h.parts r h.holds found in
          let t_is : r.bodies.terms ≡ t = cc in
          let p_is : r.bodies.postings ≡ p = cc in
          let q_is : r.bodies.positions ≡ q = cc in
          subst (λ (xs : List ℕ). HoldsField (option_of entries field) field xs p q ts) t_is
          (subst (λ (xs : List ℕ). HoldsField (option_of entries field) field r.bodies.terms xs q ts) p_is
          (subst (λ (xs : List ℕ). HoldsField (option_of entries field) field r.bodies.terms r.bodies.postings xs ts) q_is
          (subst (λ (f : ℕ). HoldsField (option_of entries f) f r.bodies.terms r.bodies.postings r.bodies.positions ts) own.is own.holds)))

  -- files with these bodies hold the tokens
  pub hold_tokens : composite (written_composite (map terms_body_of h.parts)) ≡ Some (map terms_body_of h.parts) → composite (written_composite (map postings_body_of h.parts)) ≡ Some (map postings_body_of h.parts) → composite (written_composite (map positions_body_of h.parts)) ≡ Some (map positions_body_of h.parts)
      → HoldTokens (option_of entries) (written_composite (map terms_body_of h.parts)) (written_composite (map postings_body_of h.parts)) (written_composite (map positions_body_of h.parts)) ts
  hold_tokens a b c = record {
    term_bodies = map terms_body_of h.parts;
    postings_bodies = map postings_body_of h.parts;
    positions_bodies = map positions_body_of h.parts;
    opened_terms = a;
    opened_postings = b;
    opened_positions = c;
    present = λ field. (body_present terms_body_of (λ r. r.bodies.terms) (λ r. refl) (λ r. refl) field, body_present postings_body_of (λ r. r.bodies.postings) (λ r. refl) (λ r. refl) field, body_present positions_body_of (λ r. r.bodies.positions) (λ r. refl) (λ r. refl) field);
    fields = held;
  }

  -- and their bounds are true by the norms
  pub bodies_bound : HaveTrueBodies (option_of entries) (map terms_body_of h.parts) (map postings_body_of h.parts) norms
  bodies_bound = record {
    fields = λ field t p ids is_t is_p normed.
        by field t p ids normed (find (λ (r : MergedPart). r.field == field) h.parts) refl (sym (find_is field terms_body_of (λ r. r.bodies.terms) (λ r. refl) (λ r. refl) h.parts) ∙ is_t) (sym (find_is field postings_body_of (λ r. r.bodies.postings) (λ r. refl) (λ r. refl) h.parts) ∙ is_p);
  }
    where
      by : (field : ℕ) (t p ids : List ℕ) → body_of field norms ≡ Some ids → (o : Option MergedPart) → find (λ (r : MergedPart). r.field == field) h.parts ≡ o → option_map (λ r. r.bodies.terms) o ≡ Some t → option_map (λ r. r.bodies.postings) o ≡ Some p → HasTrueTerms (option_of entries field) (norms_of_ids ids) t p
      by field t p ids normed None found a b = absurd (cc)
      by field t p ids normed (Some r) found a b =
          let own = found_part (HasTruePart entries norms) field h.parts r h.bounds found in
          let t_is : r.bodies.terms ≡ t = cc in
          let p_is : r.bodies.postings ≡ p = cc in
          let norms_are : norms_of_field norms r.field ≡ Some (norms_of_ids ids) = ap (norms_of_field norms) own.is ∙ ap (option_map norms_of_ids) normed in
          subst (λ (xs : List ℕ). HasTrueTerms (option_of entries field) (norms_of_ids ids) xs p) t_is
          (subst (λ (xs : List ℕ). HasTrueTerms (option_of entries field) (norms_of_ids ids) r.bodies.terms xs) p_is
          (subst (λ (f : ℕ). HasTrueTerms (option_of entries f) (norms_of_ids ids) r.bodies.terms r.bodies.postings) own.is (own.holds.each (norms_of_ids ids) norms_are)))

-- fields of 32 bits
pub fit_parts : (body : MergedPart → Body) → ((p : MergedPart) → (body p).field ≡ p.field) → (n : ℕ) (ps : List MergedPart) → n < 2 ^ 32 → AllByRecursion (λ (p : MergedPart). p.field < n) ps → fit_fields (map body ps) ≡ true
fit_parts body same n [] few below = refl
fit_parts body same n (p ∷ ps) few below =
    let first : nat_le ((body p).field + 1) (2 ^ 32) ≡ true = le-leb ((body p).field + 1) (2 ^ 32) (omega (arith, same p, below.0, few)) in
    rw first (fit_parts body same n ps few below.1)

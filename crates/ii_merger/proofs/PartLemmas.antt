-- The fields that are merged, one after the other, and the files that they make.
use Rattle.std.proofs.Common.{inl, inr, ◌≡◌, ℕ, zero, suc, ◌+◌, ◌-◌, ◌^◌, ◌<◌, Bool, true, false, List, [], ◌∷◌, ◌++◌, length, map, Result, Ok, Err, refl, sym, ap, ◌∙◌, subst, arith, append-nil, nat_lt, true≢false, ⊎_elim, is_err}
use Rattle.std.specs.Prelude.{◌⊎◌, ◌↔◌, IfErr, IsErrOf, IsTrue, OnOk, filter, slice_index}
use Rattle.std.specs.List.{AllByRecursion, range_with_len}
use Rattle.std.proofs.lemmas.Bool.{lt-ltb}
use Rattle.std.proofs.lemmas.List.{map-append}
use Rattle.std.proofs.lemmas.List.Elements.{filter-append}
use Rattle.ii_io.specs.declared.faults.Fault.{Fault}
use Rattle.ii_io.specs.declared.faults.Fault.TheVariants.{Limit, OutOfMemory, SerializerClosed, Write}
use Rattle.ii_io.specs.declared.faults.LimitName.TheVariants as limit
use Rattle.ii_io.specs.Composite.{Body, written_composite}
use Rattle.ii_io.specs.CompositeWrite.{AddsBody, CompositeWriteState, HasBodies, WroteComposite}
use Rattle.ii_io.specs.CountingWriter.{CountingWriterState, IsFull, Grows, Writes}
use Rattle.ii_io.proofs.CompositeSteps.{HasBodies-more}
use Rattle.ii_layout.proofs.BoundLemmas.{all_push}
use Rattle.ii_definitions.proofs.ListLaws.{range_append}
use Rattle.ii_recorder.specs.IndexBodies.{AllGrow, IndexBodiesState, OneIsFull, tables_of, failed_calls}
use Rattle.ii_recorder.specs.IndexSerializer.{EndsWriting, IndexSerializerState}
use Rattle.ii_recorder.specs.Terms.{field_bodies}
use Rattle.ii_recorder.proofs.GrowthLemmas.{table_full, AllGrow-trans}
use Rattle.ii_merger.specs.MergedField.{IsMergedFieldFault, WroteMergedField, merged_terms}
use Rattle.ii_merger.specs.MergedFiles.{AreBegun, IsFilesFault, WroteParts, IsMergeFault, WroteMerged, merging_of}
use Rattle.ii_merger.specs.MergedIndex.{AreMergedParts, EndsFields, HasParts, IsFieldsFault, IsMergedPart, MergedPart, Merging, WroteFieldsBelow, field_sources, fields_with_tokens, norms_of_field, positions_body_of, postings_body_of, terms_body_of, MergeSourceState}
use Rattle.ii_merger.proofs.FileLemmas.{Closes}
use Rattle.ii_merger.proofs.IndexMergeLemmas.{fit_parts}
use Rattle.ii_io.proofs.WriteSteps.{wrote_grows, wrote_nothing}
use Rattle.ii_recorder.specs.Endings.{CountsOnce}
use Rattle.ii_base.specs.Schema.{SchemaEntry}
use Rattle.ii_merger.specs.MergedNorms.{HaveNorms, IsNormsFault, merged_norm_bytes, merged_norm_file}
use Rattle.ii_indexing.specs.declared.index_writers.IndexWriters.{IndexWriters}
use Rattle.ii_indexing.specs.IndexFiles.{begun_files}

-- ---- how calls for fields end
grow_none : (b : IndexBodiesState) → AllGrow b b
grow_none b = record { terms = grown b.terms.writer; postings = grown b.postings.writer; positions = grown b.positions.writer }
  where
    grown : (w : CountingWriterState) → Grows w w
    grown w = wrote_grows w w [] (wrote_nothing w)

-- nothing was done
pub ends_none : (s : IndexSerializerState) → s.closed ≡ false → EndsFields s s (Ok tt)
ends_none s unclosed = record {
  entries = refl;
  unclosed = unclosed;
  failures = record { once = record { ok = refl; write = ((λ is. absurd (cc)), (λ more. absurd (omega (arith, more)))); by_one = λ is. absurd (cc) }; terms_kept = omega arith; postings_kept = omega arith; positions_kept = omega arith };
  grow = grow_none s.bodies;
}

-- a call after one that succeeded
pub ends_then : (a b c : IndexSerializerState) (r : Result (Unit {0}) Fault) → EndsFields a b (Ok tt) → EndsFields b c r → EndsFields a c r
ends_then a b c r h k = record {
  entries = k.entries ∙ h.entries;
  unclosed = k.unclosed;
  failures = record {
    once = subst (λ (n : ℕ). CountsOnce n (failed_calls c.bodies) r) h.failures.once.ok k.failures.once;
    terms_kept = omega (arith, h.failures.terms_kept, k.failures.terms_kept);
    postings_kept = omega (arith, h.failures.postings_kept, k.failures.postings_kept);
    positions_kept = omega (arith, h.failures.positions_kept, k.failures.positions_kept);
  };
  grow = AllGrow-trans a.bodies b.bodies c.bodies h.grow k.grow;
}

pub ends_well : (a b : IndexSerializerState) (r : Result (Unit {0}) Fault) → is_err r ≡ false → EndsFields a b r → EndsFields a b (Ok tt)
ends_well a b (Ok tt) went h = h
ends_well a b (Err e) went h = absurd (true≢false went)

-- a field without tokens, or one that was written
pub field_ends : (total : ℕ) (old new : IndexSerializerState) (r : Result (Unit {0}) Fault) → old.closed ≡ false → (total ≡ 0 → (r ≡ Ok tt) × (new ≡ old)) → (0 < total → EndsWriting old new r) → AllGrow old.bodies new.bodies → EndsFields old new r
field_ends zero old new r unclosed none ends grow =
    let same = none refl in
    subst (λ (s : IndexSerializerState). EndsFields old s r) (sym same.1) (subst (EndsFields old old) (sym same.0) (ends_none old unclosed))
field_ends (suc total) old new r unclosed none ends grow =
    let h = ends (omega arith) in
    record { entries = h.entries; unclosed = h.closing.closes.ok; failures = h.failures; grow = grow }

-- the fault of a field, which has tokens
pub field_fails : (total : ℕ) (P : Fault → Type 0) (old new : IndexSerializerState) (r : Result (Unit {0}) Fault) → old.closed ≡ false → (total ≡ 0 → (r ≡ Ok tt) × (new ≡ old)) → (0 < total → EndsWriting old new r)
    → IfErr r (λ e. (e ≡ SerializerClosed) ⊎ P e) → IfErr r (λ e. (e ≡ OutOfMemory) ⊎ ((0 < total) × P e))
field_fails total P old new (Ok u) unclosed none ends fault = tt
field_fails zero P old new (Err e) unclosed none ends fault = let same = (none refl).0 in absurd (cc)
field_fails (suc total) P old new (Err e) unclosed none ends (inl closed) =
    let is = (ends (omega arith)).closing.closed.0 (ap (λ (f : Fault). Err f) closed) in
    absurd (cc)
field_fails (suc total) P old new (Err e) unclosed none ends (inr cause) = inr (omega arith, cause)

-- ---- one field after the other
module _ (m : Merging) (n : ℕ) where
  abbrev counts : ℕ → Bool
  counts field = nat_lt 0 (slice_index m.num_tokens field)

  more_fields : fields_with_tokens m (n + 1) ≡ fields_with_tokens m n ++ filter counts (n ∷ [])
  more_fields =
      ap (filter counts) (range_append 0 n 1) ∙ filter-append counts (range_with_len 0 n) (range_with_len (0 + n) 1)
      ∙ ap (λ (k : ℕ). fields_with_tokens m n ++ filter counts (k ∷ [])) (omega arith)

  module _ (initial old new : IndexBodiesState) (h : WroteFieldsBelow m initial old n) where
    skipped : slice_index m.num_tokens n ≡ 0 → new ≡ old → WroteFieldsBelow m initial new (n + 1)
    skipped none same =
        let own : filter counts (n ∷ []) ≡ [] = rw none refl in
        record {
          parts = h.parts;
          are = record { fields = h.are.fields ∙ sym (more_fields ∙ ap (λ (ks : List ℕ). fields_with_tokens m n ++ ks) own ∙ append-nil (fields_with_tokens m n)); are = h.are.are };
          has = subst (λ (b : IndexBodiesState). HasParts initial b h.parts) (sym same) h.has;
        }

    module _ (w : WroteMergedField m.entries n (slice_index m.num_tokens n) (norms_of_field m.norms n) (field_sources n m.segments) old new) (some : 0 < slice_index m.num_tokens n) where
      abbrev own_part : MergedPart
      own_part = record { field = n; bodies = field_bodies w.entry.option (slice_index m.num_tokens n) (merged_terms (norms_of_field m.norms n) w.entry (field_sources n m.segments) w.keys) }

      bodies_more : (body : MergedPart → Body) (writer : CountingWriterState) (c d : CompositeWriteState) (bytes : List ℕ) → HasBodies writer c (map body h.parts) → AddsBody c d n bytes → body own_part ≡ record { field = n; bytes = bytes } → HasBodies writer d (map body (h.parts ++ own_part ∷ []))
      bodies_more body writer c d bytes has adds is =
          subst (HasBodies writer d) (sym (map-append body h.parts (own_part ∷ []) ∙ ap (λ (b : Body). map body h.parts ++ b ∷ []) is)) (HasBodies-more writer c d (map body h.parts) n bytes has adds)

      written : WroteFieldsBelow m initial new (n + 1)
      written =
          let own : filter counts (n ∷ []) ≡ n ∷ [] = rw (lt-ltb 0 (slice_index m.num_tokens n) some) refl in
          record {
            parts = h.parts ++ own_part ∷ [];
            are = record {
              fields = map-append (λ (p : MergedPart). p.field) h.parts (own_part ∷ []) ∙ ap (λ (ks : List ℕ). ks ++ n ∷ []) h.are.fields ∙ sym (more_fields ∙ ap (λ (ks : List ℕ). fields_with_tokens m n ++ ks) own);
              are = all_push (IsMergedPart m) h.parts own_part h.are.are (record { entry = w.entry; is = w.is; keys = w.keys; are = w.are; bodies = refl });
            };
            has = record {
              terms = bodies_more terms_body_of initial.terms.writer old.terms new.terms own_part.bodies.terms h.has.terms w.adds.terms refl;
              postings = bodies_more postings_body_of initial.postings.writer old.postings new.postings own_part.bodies.postings h.has.postings w.adds.postings refl;
              positions = bodies_more positions_body_of initial.positions.writer old.positions new.positions own_part.bodies.positions h.has.positions w.adds.positions refl;
            };
          }

    -- a field without tokens, or with some
    pub field_written : (total : ℕ) → total ≡ slice_index m.num_tokens n → (total ≡ 0 → new ≡ old) → (0 < total → WroteMergedField m.entries n total (norms_of_field m.norms n) (field_sources n m.segments) old new) → WroteFieldsBelow m initial new (n + 1)
    field_written zero is none wrote = skipped (sym is) (none refl)
    field_written (suc total) is none wrote =
        written (subst (λ (k : ℕ). WroteMergedField m.entries n k (norms_of_field m.norms n) (field_sources n m.segments) old new) is (wrote (omega arith))) (omega (arith, is))

    -- a field that can't be written
    pub fields_fail : (total : ℕ) (r : Result (Unit {0}) Fault) → total ≡ slice_index m.num_tokens n → IfErr r (λ e. (e ≡ OutOfMemory) ⊎ ((0 < total) × IsMergedFieldFault m.entries n total (norms_of_field m.norms n) (field_sources n m.segments) old e))
        → IfErr r (λ e. (e ≡ OutOfMemory) ⊎ IsFieldsFault m initial e)
    fields_fail total (Ok x) is fault = tt
    fields_fail total (Err e) is (inl memory) = inl memory
    fields_fail total (Err e) is (inr cause) = inr (record {
      field = n;
      some = omega (arith, is, cause.0);
      before = old;
      wrote = h;
      cause = subst (λ (k : ℕ). IsMergedFieldFault m.entries n k (norms_of_field m.norms n) (field_sources n m.segments) old e) is cause.1;
    })

-- before the first field
pub none_written : (m : Merging) (b : IndexBodiesState) → AreBegun b → WroteFieldsBelow m b b 0
none_written m b h = record { parts = []; are = record { fields = refl; are = tt }; has = record { terms = h.terms; postings = h.postings; positions = h.positions } }

-- ---- the files of all fields
pub files_fail : (m : Merging) (b : IndexBodiesState) (e : Fault) → (e ≡ OutOfMemory) ⊎ IsFieldsFault m b e → IsFilesFault m b e
files_fail m b e (inl memory) = inl memory
files_fail m b e (inr cause) = inr (inr (inl cause))

range_below : (a n : ℕ) → AllByRecursion (λ (k : ℕ). k < a + n) (range_with_len a n)
range_below a zero = tt
range_below a (suc n) = (omega arith, by (range_below (a + 1) n))
  where
    by : AllByRecursion (λ (k : ℕ). k < a + 1 + n) (range_with_len (a + 1) n) → AllByRecursion (λ (k : ℕ). k < a + suc n) (range_with_len (a + 1) n)
    by below = let same : a + 1 + n ≡ a + suc n = omega arith in subst (λ (limit : ℕ). AllByRecursion (λ (k : ℕ). k < limit) (range_with_len (a + 1) n)) same below

kept_below : (n : ℕ) (p : ℕ → Bool) (ks : List ℕ) → AllByRecursion (λ (k : ℕ). k < n) ks → AllByRecursion (λ (k : ℕ). k < n) (filter p ks)
kept_below n p [] below = tt
kept_below n p (k ∷ ks) below = by (p k) refl (kept_below n p ks below.1)
  where
    by : (b : Bool) → p k ≡ b → AllByRecursion (λ (i : ℕ). i < n) (filter p ks) → AllByRecursion (λ (i : ℕ). i < n) (filter p (k ∷ ks))
    by true is rest = rw is (below.0, rest)
    by false is rest = rw is rest

fields_below : (n : ℕ) (ps : List MergedPart) → AllByRecursion (λ (k : ℕ). k < n) (map (λ (p : MergedPart). p.field) ps) → AllByRecursion (λ (p : MergedPart). p.field < n) ps
fields_below n [] below = tt
fields_below n (p ∷ ps) below = (below.0, fields_below n ps below.1)

parts_below : (m : Merging) (n : ℕ) (ps : List MergedPart) → AreMergedParts m n ps → AllByRecursion (λ (p : MergedPart). p.field < n) ps
parts_below m n ps are = fields_below n ps (subst (AllByRecursion (λ (k : ℕ). k < n)) (sym are.fields) (kept_below n (λ (field : ℕ). nat_lt 0 (slice_index m.num_tokens field)) (range_with_len 0 n) (subst (λ (limit : ℕ). AllByRecursion (λ (k : ℕ). k < limit) (range_with_len 0 n)) (omega arith) (range_below 0 n))))

module _ (m : Merging) (old now : IndexBodiesState) (h : WroteFieldsBelow m old now (length m.entries)) where
  pub closed_parts : (t p q : CountingWriterState) (result : Result (Unit {0}) Fault) → length m.entries < 2 ^ 32 - 1 → Closes now.terms t result → Closes now.postings p result → Closes now.positions q result
      → OnOk result (WroteParts m old.terms.writer old.postings.writer old.positions.writer t p q)
  closed_parts t p q result few terms postings positions =
      let n = length m.entries in
      let low : length m.entries < 2 ^ 32 = omega (arith, few) in
      let below = parts_below m n h.parts h.are in
      by result
      (terms old.terms.writer (map terms_body_of h.parts) h.has.terms (fit_parts terms_body_of (λ r. refl) n h.parts low below))
      (postings old.postings.writer (map postings_body_of h.parts) h.has.postings (fit_parts postings_body_of (λ r. refl) n h.parts low below))
      (positions old.positions.writer (map positions_body_of h.parts) h.has.positions (fit_parts positions_body_of (λ r. refl) n h.parts low below))
    where
      by : (r : Result (Unit {0}) Fault) → OnOk r (WroteComposite old.terms.writer t (map terms_body_of h.parts)) → OnOk r (WroteComposite old.postings.writer p (map postings_body_of h.parts)) → OnOk r (WroteComposite old.positions.writer q (map positions_body_of h.parts))
          → OnOk r (WroteParts m old.terms.writer old.postings.writer old.positions.writer t p q)
      by (Err e) a b c = tt
      by (Ok x) a b c = record { parts = h.parts; are = h.are; terms = a; postings = b; positions = c }

  -- why the tables can't be written
  pub tables_fail : (result : Result (Unit {0}) Fault) (is_closed : Bool) → is_closed ≡ false → (IsErrOf result (Limit limit.Offset) → OneIsFull now (tables_of now)) → (IsErrOf result SerializerClosed ↔ IsTrue is_closed)
      → IfErr result (λ e. (e ≡ Write) ⊎ (e ≡ Limit limit.Offset) ⊎ (e ≡ SerializerClosed)) → IfErr result (IsFilesFault m old)
  tables_fail (Ok x) is_closed unclosed full closed only = tt
  tables_fail (Err e) is_closed unclosed full closed only =
      ⊎_elim (λ write. inr (inl write))
      (λ others. ⊎_elim (λ offset. inr (inr (inr (offset, record { parts = h.parts; are = h.are; full = no_room (full (ap (λ (f : Fault). Err f) offset)) }))))
      (λ is. let shut = closed.0 (ap (λ (f : Fault). Err f) is) in absurd (cc)) others) only
    where
      no_room : OneIsFull now (tables_of now) → IsFull old.terms.writer (length (written_composite (map terms_body_of h.parts))) ⊎ IsFull old.postings.writer (length (written_composite (map postings_body_of h.parts))) ⊎ IsFull old.positions.writer (length (written_composite (map positions_body_of h.parts)))
      no_room (inl terms) = inl (table_full old.terms.writer now.terms (map terms_body_of h.parts) h.has.terms terms)
      no_room (inr (inl postings)) = inr (inl (table_full old.postings.writer now.postings (map postings_body_of h.parts) h.has.postings postings))
      no_room (inr (inr positions)) = inr (inr (table_full old.positions.writer now.positions (map positions_body_of h.parts) h.has.positions positions))

-- why the file of norms can't be written
pub norm_file_fails : (m : Merging) (b : IndexBodiesState) (old new : CountingWriterState) (bytes : List ℕ) (r : Result (Unit {0}) Fault) → Writes old new bytes r → IfErr r (λ e. IsFilesFault m b e ⊎ ((e ≡ Limit limit.Offset) × IsFull old (length bytes)))
norm_file_fails m b old new bytes (Ok x) h = tt
norm_file_fails m b old new bytes (Err e) h = ⊎_elim (λ write. inl (inr (inl write))) (λ offset. inr (offset, h.limit (ap (λ (f : Fault). Err f) offset))) h.only

-- why the other files can't be written, for the same that is merged and the same files
pub files_refused : (m n : Merging) (a b : IndexBodiesState) (full : Type 0) (r : Result (Unit {0}) Fault) → m ≡ n → a ≡ b → IfErr r (IsFilesFault m a) → IfErr r (λ e. IsFilesFault n b e ⊎ ((e ≡ Limit limit.Offset) × full))
files_refused m n a b full (Ok x) same begun fault = tt
files_refused m n a b full (Err e) same begun fault = inl (subst (λ (k : Merging). IsFilesFault k b e) same (subst (λ (c : IndexBodiesState). IsFilesFault m c e) begun fault))

-- the files of a segment that was written
pub wrote_merged : {W : Type 0} (entries : List SchemaEntry) (num_tokens : List ℕ) (norms : List Body) (ss : List MergeSourceState) (old : IndexWriters W) (now t p q : CountingWriterState) (written r : Result (Unit {0}) Fault) → norms ≡ merged_norm_file entries ss → HaveNorms entries ss
    → false ≡ is_err written → Writes old.fieldnorms now (merged_norm_bytes entries ss) written → OnOk r (WroteParts (record { entries = entries; num_tokens = num_tokens; norms = norms; segments = ss }) old.terms old.postings old.positions t p q)
    → OnOk r (WroteMerged (merging_of entries num_tokens ss) old (record { terms = t; postings = p; positions = q; fieldnorms = now }))
wrote_merged entries num_tokens norms ss old now t p q (Err e) r are sound went h files = absurd (cc)
wrote_merged entries num_tokens norms ss old now t p q (Ok x) (Err e) are sound went h files = tt
wrote_merged entries num_tokens norms ss old now t p q (Ok x) (Ok y) are sound went h files = record {
  files = subst (λ (bs : List Body). WroteParts (record { entries = entries; num_tokens = num_tokens; norms = bs; segments = ss }) old.terms old.postings old.positions t p q) are files;
  norms = sound;
  wrote_norms = h.ok;
}

-- why a segment can't be merged
pub merge_fails : {W : Type 0} (m : Merging) (old : IndexWriters W) (r : Result (Unit {0}) Fault) → IfErr r (λ e. IsFilesFault m (begun_files old) e ⊎ ((e ≡ Limit limit.Offset) × IsFull old.fieldnorms (length (merged_norm_bytes m.entries m.segments)))) → IfErr r (IsMergeFault m old)
merge_fails m old (Ok x) fault = tt
merge_fails m old (Err e) (inl files) = inr (inl files)
merge_fails m old (Err e) (inr full) = inr (inr full)

-- a fault of norms isn't one of a writer
pub not_a_write : (entries : List SchemaEntry) (ss : List MergeSourceState) (e : Fault) → IsNormsFault entries ss e → ¬ (e ≡ Write)
not_a_write entries ss e (inl memory) is = absurd (cc)
not_a_write entries ss e (inr (inl limit)) is = let offset = limit.0 in absurd (cc)
not_a_write entries ss e (inr (inr none)) is = let damaged = none.0 in absurd (cc)

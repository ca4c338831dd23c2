-- A term while it is merged: what may be added to it, and how a call ends.
use Rattle.std.proofs.Common.{inl, inr, ◌≡◌, ℕ, suc, ◌<◌, ◌≤◌, Bool, true, false, if◌then◌else◌, List, [], ◌∷◌, ◌++◌, Result, Ok, Err, is_err, refl, sym, ap, ◌∙◌, subst, arith, true≢false}
use Rattle.std.specs.Prelude.{◌⊎◌, IsErrOf, IsTrue, OnOk, Option}
use Rattle.std.proofs.lemmas.List.{append-nil, map-append}
use Rattle.ii_io.specs.declared.faults.Fault.{Fault}
use Rattle.ii_io.specs.declared.faults.Fault.TheVariants.{Limit, OutOfMemory, SerializerClosed}
use Rattle.ii_io.specs.declared.faults.LimitName.TheVariants.{BlockFrequencySum}
use Rattle.ii_io.specs.declared.faults.Part.{Part}
use Rattle.ii_base.specs.declared.doc_id.TheConstants.{TERMINATED}
use Rattle.ii_base.specs.declared.schema.index_record_option.IndexRecordOption.{IndexRecordOption}
use Rattle.ii_base.specs.declared.schema.index_record_option.IndexRecordOption.TheVariants.{Basic}
use Rattle.ii_base.specs.Entries.{Entry, are_documents, docs_of}
use Rattle.ii_base.specs.Options.{has_freq}
use Rattle.ii_fieldnorm.specs.Readers.{Norms}
use Rattle.ii_recorder.specs.Endings.{CountsOnce}
use Rattle.ii_recorder.specs.IndexBodies.{IndexBodiesState, failed_calls}
use Rattle.ii_recorder.specs.IndexSerializer.{EndsInMemory, EndsWriting, IndexSerializerState, IsWriting}
use Rattle.ii_recorder.specs.OpenTerm.{OpenTermState}
use Rattle.ii_recorder.specs.Pushed.{FillTooLarge, Pushes, pushed_freqs}
use Rattle.ii_recorder.specs.Terms.{WrittenTerm}
use Rattle.ii_recorder.proofs.PushLemmas.{pushes_then, pushing_none}
use Rattle.ii_merger.specs.MergedTerm.{CoversBelow, HasEntries, IsPushFault, IsStartedTerm, LieBetween, MayPushDoc, MayStart, Merges, skip_of}
use Rattle.ii_merger.proofs.NumberLemmas.{are_in_order, between_both}

pub ends_as_ok : {A B : Type 0} (a b : IndexSerializerState) (x : A) (y : B) → EndsInMemory {A = A} a b (Ok x) → EndsInMemory {A = B} a b (Ok y)
ends_as_ok a b x y h = record {
  entries = h.entries;
  bodies = h.bodies;
  closing = record {
    closes = record { ok = h.closing.closes.ok; err = tt };
    refused = h.closing.refused;
    closed = ((λ is. absurd (cc)), (λ closed. let is = h.closing.closed.1 closed in absurd (cc)));
  };
}

-- nothing was done
pub ends_same : {A : Type 0} (a : IndexSerializerState) (x : A) → a.closed ≡ false → EndsInMemory {A = A} a a (Ok x)
ends_same a x unclosed = record {
  entries = refl;
  bodies = refl;
  closing = record { closes = record { ok = unclosed; err = tt }; refused = λ closed. refl; closed = ((λ is. absurd (cc)), (λ closed. absurd (true≢false (sym closed ∙ unclosed)))) };
}

-- a call after one that went well
pub ends_after : {A B : Type 0} (a b c : IndexSerializerState) (x : A) (result : Result B Fault) → EndsInMemory {A = A} a b (Ok x) → EndsInMemory {A = B} b c result → EndsInMemory {A = B} a c result
ends_after a b c x result h k = record {
  entries = k.entries ∙ h.entries;
  bodies = k.bodies ∙ h.bodies;
  closing = record {
    closes = k.closing.closes;
    refused = λ closed. absurd (let is = h.closing.closed.1 closed in cc);
    closed = ((λ is. absurd (true≢false (sym (k.closing.closed.0 is) ∙ h.closing.closes.ok))), (λ closed. absurd (let is = h.closing.closed.1 closed in cc)));
  };
}

-- the serializer was open
pub was_open : {A : Type 0} (a b : IndexSerializerState) (x : A) → EndsInMemory {A = A} a b (Ok x) → a.closed ≡ false
was_open a b x h = by a.closed refl
  where
    by : (closed : Bool) → a.closed ≡ closed → a.closed ≡ false
    by false is = is
    by true is = absurd (let refused = h.closing.closed.1 is in cc)

-- a term was started, if the call went well
pub started_by : (key : List ℕ) (kind : IndexRecordOption) (old new : IndexSerializerState) (result : Result (Unit {0}) Fault) (counted : Bool) → counted ≡ has_freq kind
    → OnOk result (new.field.term ≡ record old.field.term { skip_info = if counted then old.field.term.mode else Basic; docs = []; freqs = []; deltas = [] }) → OnOk result (new.field.term_open ≡ true)
    → ((initial : IndexBodiesState) (field tokens : ℕ) (norms : Option Norms) (ts : List WrittenTerm) → IsWriting initial old field tokens norms ts [] → OnOk result (IsWriting initial new field tokens norms ts (key ∷ [])))
    → EndsInMemory old new result → OnOk result (IsStartedTerm key kind old new)
started_by key kind old new (Err e) counted same term inside writing ends = tt
started_by key kind old new (Ok u) counted same term inside writing ends =
    record { term = term ∙ ap (λ (b : Bool). record old.field.term { skip_info = if b then old.field.term.mode else Basic; docs = []; freqs = []; deltas = [] }) same; inside = inside; writing = writing; ends = ends_as_ok old new u tt ends }

-- ---- the entries of a term
kept_counts : (b : Bool) (mode kind : IndexRecordOption) → has_freq kind ≡ b → IsTrue (has_freq (if b then mode else Basic)) → IsTrue b
kept_counts true mode kind is h = refl
kept_counts false mode kind is h = absurd (cc)

module _ (key : List ℕ) (kind : IndexRecordOption) (old : IndexSerializerState) where
  pub has_norms : (new : IndexSerializerState) (es : List Entry) → HasEntries key kind old new es → new.field.term.norms ≡ old.field.term.norms
  has_norms new es h = ap (λ (s : IndexSerializerState). s.field.term.norms) h.pushed.ok ∙ ap (λ (t : OpenTermState). t.norms) h.start.term

  pub merges_norms : (begun : Bool) (new : IndexSerializerState) (es : List Entry) → Merges begun key kind old new es → new.field.term.norms ≡ old.field.term.norms
  merges_norms false new es h = ap (λ (s : IndexSerializerState). s.field.term.norms) h.0
  merges_norms true new es h = has_norms new es h.0

  pub has_ends : (new : IndexSerializerState) (es : List Entry) → HasEntries key kind old new es → EndsInMemory {A = Unit {0}} old new (Ok tt)
  has_ends new es h = ends_after old h.started new tt (Ok tt) h.start.ends h.pushed.ends

  pub merges_ends : (begun : Bool) (new : IndexSerializerState) (es : List Entry) → MayStart key old → Merges begun key kind old new es → EndsInMemory {A = Unit {0}} old new (Ok tt)
  merges_ends false new es start h = subst (λ (s : IndexSerializerState). EndsInMemory {A = Unit {0}} old s (Ok tt)) (sym h.0) (ends_same old tt start.unclosed)
  merges_ends true new es start h = has_ends new es h.0

  pub merges_open : (begun : Bool) (new : IndexSerializerState) (es : List Entry) → MayStart key old → Merges begun key kind old new es → new.closed ≡ false
  merges_open begun new es start h = (merges_ends begun new es start h).closing.closes.ok

  -- a term that was just started
  pub started_none : (s : IndexSerializerState) → IsStartedTerm key kind old s → HasEntries key kind old s []
  started_none s start =
      let none = pushing_none kind s [] (Ok tt) (rw start.ends.closing.closes.ok refl) refl in
      let done : none.done ≡ [] = sym (append-nil none.done) ∙ sym none.parts in
      record { started = s; start = start; pushed = subst (λ (xs : List Entry). Pushes kind s s xs (Ok tt)) done none.pushed }

  -- what may be added to entries
  pub has_may_push : (new : IndexSerializerState) (es : List Entry) (number limit : ℕ) → HasEntries key kind old new es → LieBetween 0 number es → number < limit → limit ≤ TERMINATED → CoversBelow new.field.term.norms limit → MayPushDoc kind new number
  has_may_push new es number limit h docs low high covers =
      let all = h.pushed.ok in
      let docs_are : new.field.term.docs ≡ docs_of es = ap (λ (s : IndexSerializerState). s.field.term.docs) all ∙ ap (λ (t : OpenTermState). t.docs ++ docs_of es) h.start.term in
      let e : Entry = record { doc = number; term_freq = 0; positions = [] } in
      let together : docs_of es ++ number ∷ [] ≡ docs_of (es ++ e ∷ []) = sym (map-append (λ (f : Entry). f.doc) es (e ∷ [])) in
      let in_order = are_in_order 0 (suc number) (es ++ e ∷ []) (between_both 0 number (suc number) es (e ∷ []) docs (omega arith, omega arith)) (omega (arith, low, high)) in
      let skip : new.field.term.skip_info ≡ skip_of old.field.term.mode kind = ap (λ (s : IndexSerializerState). s.field.term.skip_info) all ∙ ap (λ (t : OpenTermState). t.skip_info) h.start.term in
      record {
        inside = ap (λ (s : IndexSerializerState). s.field.term_open) all ∙ h.start.inside;
        ascending = ap (λ (ds : List ℕ). are_documents (ds ++ number ∷ [])) docs_are ∙ ap are_documents together ∙ in_order;
        kept = λ has. kept_counts (has_freq kind) old.field.term.mode kind refl (sym (ap has_freq skip) ∙ has);
        covered = covers number low;
      }

  -- entries were added to those of the term
  pub has_more : (mid new : IndexSerializerState) (xs ys : List Entry) → HasEntries key kind old mid xs → Pushes kind mid new ys (Ok tt) → HasEntries key kind old new (xs ++ ys)
  has_more mid new xs ys h pushed = record { started = h.started; start = h.start; pushed = pushes_then kind h.started mid new xs ys (Ok tt) h.pushed pushed }

  -- why entries weren't added
  pub push_fault : (mid new : IndexSerializerState) (xs ys : List Entry) (damage : Option Part) (e : Fault) → HasEntries key kind old mid xs → Pushes kind mid new ys (Err e) → IsPushFault damage (skip_of old.field.term.mode kind) kind (xs ++ ys) e
  push_fault mid new xs ys damage e h refused =
      let all = pushes_then kind h.started mid new xs ys (Err e) h.pushed refused in
      by all.only all.limit all.ends.closing.closed.0
    where
      by : (e ≡ OutOfMemory) ⊎ (e ≡ SerializerClosed) ⊎ (e ≡ Limit BlockFrequencySum) → (IsErrOf {T = Unit {0}} (Err e) (Limit BlockFrequencySum) → FillTooLarge h.started.field.term.skip_info h.started.field.term.freqs (pushed_freqs kind (xs ++ ys)))
          → (IsErrOf {T = Unit {0}} (Err e) SerializerClosed → IsTrue h.started.closed) → IsPushFault damage (skip_of old.field.term.mode kind) kind (xs ++ ys) e
      by (inl memory) limit closed = inr (inl memory)
      by (inr (inl is)) limit closed = absurd (true≢false (sym (closed (ap Err is)) ∙ h.start.ends.closing.closes.ok))
      by (inr (inr is)) limit closed = inr (inr (is, subst (λ (t : OpenTermState). FillTooLarge t.skip_info t.freqs (pushed_freqs kind (xs ++ ys))) h.start.term (limit (ap Err is))))

-- ---- calls that write
-- a call after one that went well
pub writes_after : {A B : Type 0} (a b c : IndexSerializerState) (x : A) (result : Result B Fault) → EndsWriting {A = A} a b (Ok x) → EndsWriting {A = B} b c result → EndsWriting {A = B} a c result
writes_after a b c x result h k =
    let none : failed_calls b.bodies ≡ failed_calls a.bodies = h.failures.once.ok in
    record {
      entries = k.entries ∙ h.entries;
      failures = record {
        once = subst (λ (n : ℕ). CountsOnce n (failed_calls c.bodies) result) none k.failures.once;
        terms_kept = omega (arith, h.failures.terms_kept, k.failures.terms_kept);
        postings_kept = omega (arith, h.failures.postings_kept, k.failures.postings_kept);
        positions_kept = omega (arith, h.failures.positions_kept, k.failures.positions_kept);
      };
      closing = record {
        closes = k.closing.closes;
        refused = λ closed. absurd (let is = h.closing.closed.1 closed in cc);
        closed = ((λ is. absurd (true≢false (sym (k.closing.closed.0 is) ∙ h.closing.closes.ok))), (λ closed. absurd (let is = h.closing.closed.1 closed in cc)));
      };
    }

-- a call that wasn't refused
pub writes_well : (a b : IndexSerializerState) (result : Result (Unit {0}) Fault) → is_err result ≡ false → EndsWriting a b result → EndsWriting {A = Unit {0}} a b (Ok tt)
writes_well a b (Ok tt) went h = h
writes_well a b (Err e) went h = absurd (true≢false went)

pub went_well : (P : Type 0) (result : Result (Unit {0}) Fault) → is_err result ≡ false → OnOk result P → P
went_well P (Ok tt) went h = h
went_well P (Err e) went h = absurd (true≢false went)

-- nothing was written
pub writes_none : (a : IndexSerializerState) → a.closed ≡ false → EndsWriting {A = Unit {0}} a a (Ok tt)
writes_none a unclosed = record {
  entries = refl;
  failures = record { once = record { ok = refl; write = ((λ is. absurd (cc)), (λ low. absurd (omega (arith, low)))); by_one = λ is. absurd (cc) }; terms_kept = omega arith; postings_kept = omega arith; positions_kept = omega arith };
  closing = (ends_same a tt unclosed).closing;
}

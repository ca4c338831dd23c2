-- Entries that are added one after the other.
use Rattle.std.proofs.Common.{◌^◌, ◌≡◌, ℕ, ◌+◌, ◌-◌, ◌<◌, ◌≤◌, Bool, true, false, if◌then◌else◌, List, [], ◌∷◌, ◌++◌, length, take, Result, Ok, Err, is_err, refl, sym, ap, subst, ◌∙◌, arith, append_assoc, length-append, ⊎_elim}
use Rattle.std.proofs.lemmas.Bool.{and_parts, cases_lt, ltb-true}
use Rattle.std.specs.Prelude.{◌&&◌, ◌↔◌, ◌⊎◌, nat_le, nat_lt, Option, OnOk, IfErr, IsTrue, IsErrOf}
use Rattle.std.specs.List.{AllByRecursion}
use Rattle.std.proofs.lemmas.Grind.{flat_map-append}
use Rattle.std.proofs.lemmas.List.{append-nil, map-append, take-append-le}
use Rattle.std.proofs.Math.Seq.{take-append-add}
use Rattle.ii_io.specs.declared.faults.Fault.{Fault}
use Rattle.ii_io.specs.declared.faults.Fault.TheVariants.{Limit, OutOfMemory, SerializerClosed}
use Rattle.ii_io.specs.declared.faults.LimitName.TheVariants.{BlockFrequencySum}
use Rattle.ii_base.specs.declared.schema.index_record_option.IndexRecordOption.{IndexRecordOption}
use Rattle.ii_base.specs.Options.{has_freq, has_positions}
use Rattle.ii_base.specs.declared.doc_id.TheConstants.{TERMINATED}
use Rattle.ii_definitions.proofs.ListLaws.{all_both}
use Rattle.ii_fieldnorm.specs.Readers.{Norms}
use Rattle.ii_layout.specs.Bounds.{Covers}
use Rattle.ii_layout.specs.PostingsSerializer.{IsSumTooLarge}
use Rattle.ii_codes.specs.Sums.{differences}
use Rattle.ii_base.specs.Entries.{Entry, ascend_from, docs_of}
use Rattle.ii_recorder.specs.IndexBodies.{IndexBodiesState}
use Rattle.ii_recorder.specs.IndexSerializer.{EndsInMemory, IndexSerializerState, IsWriting}
use Rattle.ii_recorder.specs.Terms.{WrittenTerm}
use Rattle.ii_recorder.specs.Pushed.{FillTooLarge, MayPush, Pushes, pushed_deltas, pushed_freqs, with_entries}

deltas_after : (b : Bool) (old : List ℕ) (xs ys : List Entry) → (if b then (if b then old ++ pushed_deltas xs else old) ++ pushed_deltas ys else (if b then old ++ pushed_deltas xs else old)) ≡ (if b then old ++ pushed_deltas (xs ++ ys) else old)
deltas_after true old xs ys = append_assoc old (pushed_deltas xs) (pushed_deltas ys) ∙ ap (λ (ds : List ℕ). old ++ ds) (sym (flat_map-append (λ (e : Entry). differences 0 e.positions) xs ys))
deltas_after false old xs ys = refl

with_both : (option : IndexRecordOption) (s : IndexSerializerState) (xs ys : List Entry) → with_entries option (with_entries option s xs) ys ≡ with_entries option s (xs ++ ys)
with_both option s xs ys =
    let t = s.field.term in
    let docs : (t.docs ++ docs_of xs) ++ docs_of ys ≡ t.docs ++ docs_of (xs ++ ys) = append_assoc t.docs (docs_of xs) (docs_of ys) ∙ ap (λ (ds : List ℕ). t.docs ++ ds) (sym (map-append (λ (e : Entry). e.doc) xs ys)) in
    let freqs : (t.freqs ++ pushed_freqs option xs) ++ pushed_freqs option ys ≡ t.freqs ++ pushed_freqs option (xs ++ ys) =
    append_assoc t.freqs (pushed_freqs option xs) (pushed_freqs option ys) ∙ ap (λ (ns : List ℕ). t.freqs ++ ns) (sym (map-append (λ (e : Entry). if has_freq option then e.term_freq else 0) xs ys))
    in
    rw (docs, freqs, deltas_after (has_positions t.mode) t.deltas xs ys) refl

-- counts that fill a block too large after others do so after these and those
large_later : (skip_info : IndexRecordOption) (old xs ys : List ℕ) → FillTooLarge skip_info (old ++ xs) ys → FillTooLarge skip_info old (xs ++ ys)
large_later skip_info old xs ys h =
    let place : length xs + h.0 + 1 ≡ length xs + (h.0 + 1) = omega arith in
    (length xs + h.0, omega (arith, h.1, length-append xs ys), rw (place, take-append-add xs ys (h.0 + 1), ← append_assoc old xs (take (h.0 + 1) ys)) h.2)

large_more : (skip_info : IndexRecordOption) (old xs ys : List ℕ) → FillTooLarge skip_info old xs → FillTooLarge skip_info old (xs ++ ys)
large_more skip_info old xs ys h = (h.0, omega (arith, h.1, length-append xs ys), rw (take-append-le (h.0 + 1) xs ys (omega (arith, h.1))) h.2)

small_both : (skip_info : IndexRecordOption) (old xs ys : List ℕ) → ¬ FillTooLarge skip_info old xs → ¬ FillTooLarge skip_info (old ++ xs) ys → ¬ FillTooLarge skip_info old (xs ++ ys)
small_both skip_info old xs ys first others h = ⊎_elim (λ (earlier : h.0 < length xs). first (h.0, earlier, rw (take-append-le (h.0 + 1) xs ys (omega arith)) at h.2))
    (λ (later : length xs ≤ h.0).
    let place : h.0 + 1 ≡ length xs + (h.0 - length xs + 1) = omega arith in
    let large = rw (place, take-append-add xs ys (h.0 - length xs + 1), ← append_assoc old xs (take (h.0 - length xs + 1) ys)) at h.2 in
    others (h.0 - length xs, omega (arith, h.1, length-append xs ys), large)) (cases_lt h.0 (length xs))

-- how a call ends after one that went well
ends_then : (a b c : IndexSerializerState) (result : Result (Unit {0}) Fault) → EndsInMemory {A = Unit {0}} a b (Ok tt) → EndsInMemory b c result → EndsInMemory a c result
ends_then a b c (Ok u) h k = record {
  entries = k.entries ∙ h.entries;
  bodies = k.bodies ∙ h.bodies;
  closing = record {
    closes = k.closing.closes;
    refused = λ closed. let open_still = h.closing.closed.1 closed in absurd (cc);
    closed = (λ e. absurd (cc), λ closed. let not_closed = h.closing.closed.1 closed in absurd (cc));
  };
}
ends_then a b c (Err e) h k = record {
  entries = k.entries ∙ h.entries;
  bodies = k.bodies ∙ h.bodies;
  closing = record {
    closes = k.closing.closes;
    refused = λ closed. let open_still = h.closing.closed.1 closed in absurd (cc);
    closed = (λ is. let was = k.closing.closed.0 is in let still = h.closing.closes.ok in absurd (cc), λ closed. let not_closed = h.closing.closed.1 closed in absurd (cc));
  };
}

-- what is pushed after what was
pub pushes_then : (option : IndexRecordOption) (a b c : IndexSerializerState) (xs ys : List Entry) (result : Result (Unit {0}) Fault) → Pushes option a b xs (Ok tt) → Pushes option b c ys result → Pushes option a c (xs ++ ys) result
pushes_then option a b c xs ys (Ok u) h k =
    let same = h.ok in
    let later = rw same at k.small in
    record {
      ok = k.ok ∙ ap (λ (s : IndexSerializerState). with_entries option s ys) same ∙ with_both option a xs ys;
      small = rw (map-append (λ (e : Entry). if has_freq option then e.term_freq else 0) xs ys) (small_both a.field.term.skip_info a.field.term.freqs (pushed_freqs option xs) (pushed_freqs option ys) h.small later);
      fit = rw (map-append (λ (e : Entry). if has_freq option then e.term_freq else 0) xs ys) (all_both (λ n. n < 2 ^ 32) (pushed_freqs option xs) (pushed_freqs option ys) h.fit k.fit);
      ends = ends_then a b c (Ok u) h.ends k.ends;
      limit = λ e. absurd (cc);
      only = tt;
    }
pushes_then option a b c xs ys (Err e) h k =
    let same = h.ok in
    record {
      ok = tt;
      small = tt;
      fit = tt;
      ends = ends_then a b c (Err e) h.ends k.ends;
      limit = λ is. rw (map-append (λ (e : Entry). if has_freq option then e.term_freq else 0) xs ys) (large_later a.field.term.skip_info a.field.term.freqs (pushed_freqs option xs) (pushed_freqs option ys) (rw same at (k.limit is)));
      only = k.only;
    }

pushes_refused : (option : IndexRecordOption) (a b : IndexSerializerState) (xs ys : List Entry) (e : Fault) → Pushes option a b xs (Err e) → Pushes option a b (xs ++ ys) (Err e)
pushes_refused option a b xs ys e h = record {
  ok = tt;
  small = tt;
  fit = tt;
  ends = h.ends;
  limit = λ is. rw (map-append (λ (e : Entry). if has_freq option then e.term_freq else 0) xs ys) (large_more a.field.term.skip_info a.field.term.freqs (pushed_freqs option xs) (pushed_freqs option ys) (h.limit is));
  only = h.only;
}

-- a call that was refused, whatever was to follow
pub pushes_refused_by : (option : IndexRecordOption) (a b : IndexSerializerState) (xs ys : List Entry) (result : Result (Unit {0}) Fault) → true ≡ is_err result → Pushes option a b xs result → Pushes option a b (xs ++ ys) result
pushes_refused_by option a b xs ys (Ok u) e h = absurd (cc)
pushes_refused_by option a b xs ys (Err f) e h = pushes_refused option a b xs ys f h

-- and one that was not refused
pub pushes_went : (option : IndexRecordOption) (a b : IndexSerializerState) (xs : List Entry) (result : Result (Unit {0}) Fault) → false ≡ is_err result → Pushes option a b xs result → Pushes option a b xs (Ok tt)
pushes_went option a b xs (Ok tt) e h = h
pushes_went option a b xs (Err f) e h = absurd (cc)

all_front : (P : ℕ → Type 0) (xs ys : List ℕ) → AllByRecursion P (xs ++ ys) → AllByRecursion P xs
all_front P [] ys h = tt
all_front P (x ∷ xs) ys h = (h.0, all_front P xs ys h.1)

all_back : (P : ℕ → Type 0) (xs ys : List ℕ) → AllByRecursion P (xs ++ ys) → AllByRecursion P ys
all_back P [] ys h = h
all_back P (x ∷ xs) ys h = all_back P xs ys h.1

ascend_front : (least : ℕ) (xs ys : List ℕ) → ascend_from least (xs ++ ys) ≡ true → ascend_from least xs ≡ true
ascend_front least [] ys h = refl
ascend_front least (x ∷ xs) ys h =
    let parts = and_parts (nat_le least x && nat_lt x TERMINATED) (ascend_from (x + 1) (xs ++ ys)) h in
    rw (parts.0, ascend_front (x + 1) xs ys parts.1) refl

-- entries before others may be pushed, and then those
pub may_push_first : (option : IndexRecordOption) (s : IndexSerializerState) (xs ys : List Entry) → MayPush option s (xs ++ ys) → MayPush option s xs
may_push_first option s xs ys h = record {
  inside = h.inside;
  ascending = λ e.
      let all = rw (map-append (λ (e : Entry). e.doc) xs ys, ← append_assoc s.field.term.docs (docs_of xs) (docs_of ys)) at (h.ascending e) in
      ascend_front 0 (s.field.term.docs ++ docs_of xs) (docs_of ys) all;
  counted = λ e has. all_front (λ n. 0 < n) (pushed_freqs option xs) (pushed_freqs option ys) (rw (map-append (λ (e : Entry). if has_freq option then e.term_freq else 0) xs ys) at (h.counted e has));
  covered = λ e. all_front (Covers s.field.term.norms) (docs_of xs) (docs_of ys) (rw (map-append (λ (e : Entry). e.doc) xs ys) at (h.covered e));
}

pub may_push_then : (option : IndexRecordOption) (s b : IndexSerializerState) (xs ys : List Entry) → MayPush option s (xs ++ ys) → Pushes option s b xs (Ok tt) → MayPush option b ys
may_push_then option s b xs ys h k =
    let same = k.ok in
    rw same (record {
      inside = h.inside;
      ascending = λ e. rw (append_assoc s.field.term.docs (docs_of xs) (docs_of ys), ← map-append (λ (e : Entry). e.doc) xs ys) (h.ascending e);
      counted = λ e has. all_back (λ n. 0 < n) (pushed_freqs option xs) (pushed_freqs option ys) (rw (map-append (λ (e : Entry). if has_freq option then e.term_freq else 0) xs ys) at (h.counted e has));
      covered = λ e. all_back (Covers s.field.term.norms) (docs_of xs) (docs_of ys) (rw (map-append (λ (e : Entry). e.doc) xs ys) at (h.covered e));
    })

-- the next entry may be pushed
pub may_next : (option : IndexRecordOption) (s b : IndexSerializerState) (xs : List Entry) (e : Entry) (ys es : List Entry) → es ≡ xs ++ e ∷ ys → MayPush option s es → Pushes option s b xs (Ok tt) → MayPush option b (e ∷ [])
may_next option s b xs e ys es parts h k = may_push_first option b (e ∷ []) ys (may_push_then option s b xs (e ∷ ys) (rw parts at h) k)

pub pushed_next : (option : IndexRecordOption) (s b c : IndexSerializerState) (xs : List Entry) (e : Entry) (es : List Entry) (result : Result (Unit {0}) Fault) → es ≡ xs ++ e ∷ [] → false ≡ is_err result → Pushes option s b xs (Ok tt)
    → Pushes option b c (e ∷ []) result → Pushes option s c es (Ok tt)
pushed_next option s b c xs e es result parts went h k = rw parts (pushes_then option s b c xs (e ∷ []) (Ok tt) h (pushes_went option b c (e ∷ []) result went k))

pub refused_next : (option : IndexRecordOption) (s b c : IndexSerializerState) (xs : List Entry) (e : Entry) (ys es : List Entry) (result : Result (Unit {0}) Fault) → es ≡ xs ++ e ∷ ys → true ≡ is_err result → Pushes option s b xs (Ok tt)
    → Pushes option b c (e ∷ []) result → Pushes option s c es result
refused_next option s b c xs e ys es result parts refused h k = rw parts (pushes_then option s b c xs (e ∷ ys) result h (pushes_refused_by option b c (e ∷ []) ys result refused k))

-- Entries some of which were added, and the remaining ones.
pub record IsPushing (option : IndexRecordOption) (s b : IndexSerializerState) (es rest : List Entry) : Type 0 where
  pub done : List Entry
  pub parts : es ≡ done ++ rest
  pub pushed : Pushes option s b done (Ok tt)

-- a serializer that answered that no call was refused
checked_open : (closed : Bool) (checked : Result (Unit {0}) Fault) → ◌≡◌ {A = Result (Unit {0}) Fault} checked (if closed then Err SerializerClosed else Ok tt) → is_err checked ≡ false → closed ≡ false
checked_open false checked is went = refl
checked_open true checked is went = let refused = rw is at went in absurd (cc)

no_deltas : (b : Bool) (ds : List ℕ) → (if b then ds ++ [] else ds) ≡ ds
no_deltas true ds = append-nil ds
no_deltas false ds = refl

-- before the first entry
pub pushing_none : (option : IndexRecordOption) (s : IndexSerializerState) (es : List Entry) (checked : Result (Unit {0}) Fault) → ◌≡◌ {A = Result (Unit {0}) Fault} checked (if s.closed then Err SerializerClosed else Ok tt) → is_err checked ≡ false
    → IsPushing option s s es es
pushing_none option s es checked is went =
    let t = s.field.term in
    let open_still = checked_open s.closed checked is went in
    record {
      done = [];
      parts = refl;
      pushed = record {
        ok = rw (append-nil t.docs, append-nil t.freqs, no_deltas (has_positions t.mode) t.deltas) refl;
        small = λ large. let none = large.1 in absurd (omega arith);
        fit = tt;
        ends = record { entries = refl; bodies = refl; closing = record { closes = record { ok = open_still; err = tt }; refused = λ closed. refl; closed = (λ e. absurd (cc), λ closed. absurd (cc)) } };
        limit = λ e. absurd (cc);
        only = tt;
      };
    }

pub pushing_may : (option : IndexRecordOption) (s b : IndexSerializerState) (es rest : List Entry) (e : Entry) (more : List Entry) → IsPushing option s b es rest → rest ≡ e ∷ more → MayPush option s es → MayPush option b (e ∷ [])
pushing_may option s b es rest e more h is may = may_next option s b h.done e more es (h.parts ∙ ap (λ (xs : List Entry). h.done ++ xs) is) may h.pushed

pub pushing_next : (option : IndexRecordOption) (s b c : IndexSerializerState) (es rest : List Entry) (e : Entry) (more : List Entry) (result : Result (Unit {0}) Fault) → IsPushing option s b es rest → rest ≡ e ∷ more → false ≡ is_err result
    → Pushes option b c (e ∷ []) result → IsPushing option s c es more
pushing_next option s b c es rest e more result h is went k = record {
  done = h.done ++ e ∷ [];
  parts = h.parts ∙ ap (λ (xs : List Entry). h.done ++ xs) is ∙ sym (append_assoc h.done (e ∷ []) more);
  pushed = pushed_next option s b c h.done e (h.done ++ e ∷ []) result refl went h.pushed k;
}

pub pushing_refused : (option : IndexRecordOption) (s b c : IndexSerializerState) (es rest : List Entry) (e : Entry) (more : List Entry) (result : Result (Unit {0}) Fault) → IsPushing option s b es rest → rest ≡ e ∷ more → true ≡ is_err result
    → Pushes option b c (e ∷ []) result → Pushes option s c es result
pushing_refused option s b c es rest e more result h is refused k = refused_next option s b c h.done e more es result (h.parts ∙ ap (λ (xs : List Entry). h.done ++ xs) is) refused h.pushed k

open_before : (b : Bool) → (IsTrue b → IsErrOf {T = Unit {0}} {E = Fault} (Ok tt) SerializerClosed) → b ≡ false
open_before false h = refl
open_before true h = absurd (let e = h refl in cc)

ascend_one : (least : ℕ) (xs : List ℕ) (d : ℕ) (ys : List ℕ) → ascend_from least (xs ++ d ∷ ys) ≡ true → d < TERMINATED
ascend_one least [] d ys h =
    let both = (and_parts (nat_le least d && nat_lt d TERMINATED) (ascend_from (d + 1) ys) h).0 in
    ltb-true d TERMINATED (and_parts (nat_le least d) (nat_lt d TERMINATED) both).1
ascend_one least (x ∷ xs) d ys h = ascend_one (x + 1) xs d ys (and_parts (nat_le least x && nat_lt x TERMINATED) (ascend_from (x + 1) (xs ++ d ∷ ys)) h).1

-- a serializer whose open term has one more document
abbrev with_document : IndexSerializerState → ℕ → ℕ → List ℕ → IndexSerializerState
with_document s doc n deltas =
    let t = s.field.term in
    record s {
      field = record s.field {
        term = record t { docs = t.docs ++ doc ∷ []; freqs = t.freqs ++ n ∷ []; deltas = if has_positions t.mode then t.deltas ++ deltas else t.deltas };
      };
    }

-- one entry that the serializer was given, and its answer
pub pushes_one : (option : IndexRecordOption) (s b : IndexSerializerState) (e : Entry) (n : ℕ) (deltas : List ℕ) (result : Result (Unit {0}) Fault)
    → n ≡ (if has_freq option then e.term_freq else 0) → deltas ≡ differences 0 e.positions → n < 2 ^ 32
    → OnOk result (b ≡ with_document s e.doc n deltas) → EndsInMemory s b result
    → (IsErrOf result (Limit BlockFrequencySum) ↔ (s.closed ≡ false) × IsSumTooLarge s.field.term.skip_info (s.field.term.freqs ++ n ∷ []))
    → IfErr result (λ f. (f ≡ OutOfMemory) ⊎ (f ≡ SerializerClosed) ⊎ (f ≡ Limit BlockFrequencySum))
    → Pushes option s b (e ∷ []) result
pushes_one option s b e n deltas (Ok tt) counted located fits ok ends limit only =
    let opened = open_before s.closed ends.closing.closed.1 in
    record {
      ok = ok ∙ rw (counted, located, append-nil (differences 0 e.positions)) refl;
      small = λ large. let first : large.0 ≡ 0 = omega (arith, large.1) in let sum = rw (first, ← counted) at large.2 in let refused = limit.1 (opened, sum) in absurd (cc);
      fit = (subst (λ m. m < 2 ^ 32) counted fits, tt);
      ends = ends;
      limit = λ is. absurd (cc);
      only = tt;
    }
pushes_one option s b e n deltas (Err f) counted located fits ok ends limit only = record {
  ok = tt;
  small = tt;
  fit = tt;
  ends = ends;
  limit = λ is. (0, omega arith, rw (← counted) (limit.0 is).1);
  only = only;
}

-- a document that is left lies below the end
pub pushing_below : (option : IndexRecordOption) (s b : IndexSerializerState) (es rest : List Entry) (e : Entry) (more : List Entry) → IsPushing option s b es rest → rest ≡ e ∷ more → MayPush option s es → e.doc < TERMINATED
pushing_below option s b es rest e more h is may =
    let still_open : s.closed ≡ false = open_before s.closed h.pushed.ends.closing.closed.1 in
    let parts = h.parts ∙ ap (λ (xs : List Entry). h.done ++ xs) is in
    let docs : docs_of es ≡ docs_of h.done ++ e.doc ∷ docs_of more = ap docs_of parts ∙ map-append (λ (f : Entry). f.doc) h.done (e ∷ more) in
    let all : s.field.term.docs ++ docs_of es ≡ (s.field.term.docs ++ docs_of h.done) ++ e.doc ∷ docs_of more = ap (λ (ds : List ℕ). s.field.term.docs ++ ds) docs ∙ sym (append_assoc s.field.term.docs (docs_of h.done) (e.doc ∷ docs_of more)) in
    ascend_one 0 (s.field.term.docs ++ docs_of h.done) e.doc (docs_of more) (sym (ap (ascend_from 0) all) ∙ may.ascending still_open)

all_at : (P : Entry → Type 0) (done : List Entry) (e : Entry) (more : List Entry) → AllByRecursion P (done ++ e ∷ more) → P e
all_at P [] e more h = h.0
all_at P (x ∷ xs) e more h = all_at P xs e more h.1

-- what holds of all entries holds of the next one
pub pushing_each : (P : Entry → Type 0) (option : IndexRecordOption) (s b : IndexSerializerState) (es rest : List Entry) (e : Entry) (more : List Entry) → IsPushing option s b es rest → rest ≡ e ∷ more → AllByRecursion P es → P e
pushing_each P option s b es rest e more h is all = all_at P h.done e more (subst (AllByRecursion P) (h.parts ∙ ap (λ (xs : List Entry). h.done ++ xs) is) all)

-- what was written of a field stays as it is
pub writing_pushed : (option : IndexRecordOption) (initial : IndexBodiesState) (s : IndexSerializerState) (es : List Entry) (field tokens : ℕ) (norms : Option Norms) (ts : List WrittenTerm) (pending : List (List ℕ)) → IsWriting initial s field tokens norms ts pending
    → IsWriting initial (with_entries option s es) field tokens norms ts pending
writing_pushed option initial s es field tokens norms ts pending h = record { counted = h.counted; mode = h.mode; norms_are = h.norms_are; bodies = h.bodies; terms = h.terms }

-- How a call ends that writes a field if it has terms.
use Rattle.std.proofs.Common.{Option, None, Some, ◌≡◌, ℕ, ◌≤◌, ◌<◌, ◌⊎◌, inl, inr, Bool, true, false, List, length, Result, Ok, Err, refl, sym, ap, ◌∙◌, subst, arith, true≢false}
use Rattle.std.specs.Prelude.{◌↔◌, ◌^◌, MatchOption, OnErr, IfErr, IsErrOf, IsSomeAnd, IsTrue, ⊤}
use Rattle.ii_io.specs.declared.faults.Fault.{Fault}
use Rattle.ii_io.specs.declared.faults.Fault.TheVariants.{Limit, OutOfMemory, SerializerClosed, Write}
use Rattle.ii_io.specs.declared.faults.LimitName.TheVariants as limit
use Rattle.ii_io.proofs.WriteSteps.{grows_not}
use Rattle.ii_fieldnorm.specs.Readers.{Norms}
use Rattle.ii_base.specs.Schema.{SchemaEntry}
use Rattle.ii_recorder.specs.Endings.{CountsOnce, EndsUnlessClosed}
use Rattle.ii_recorder.specs.IndexBodies.{AddsBodies, AllGrow, CountsFailures, IndexBodiesState, failed_calls}
use Rattle.ii_recorder.specs.Terms.{FieldBodies}
use Rattle.ii_recorder.specs.IndexSerializer.{EndsInMemory, EndsWriting, IndexSerializerState}
use Rattle.ii_postings_writer.specs.FieldParts.{FieldPart, HasFields}
use Rattle.ii_postings_writer.specs.SortedTerms.{SortedTerm}
use Rattle.ii_postings_writer.specs.WriteFaults.{ClosesOrStays, EndsParts, IsFaultBy}
use Rattle.ii_recorder.proofs.GrowthLemmas.{AllGrow-trans}
use Rattle.ii_postings_writer.proofs.GrowthLaws.{fields_grow}
use Rattle.ii_postings_writer.proofs.PartLemmas.{part_of}

-- some norms are too long, or memory wasn't enough: short ones leave the latter
pub left_memory : {P Q : Type 0} (found : Option (List ℕ)) (e : Fault) → MatchOption found ⊤ (λ ids. length ids < 2 ^ 32) → (P → IsSomeAnd found (λ ids. 2 ^ 32 ≤ length ids)) → (Q → P) → (e ≡ OutOfMemory) ⊎ Q → e ≡ OutOfMemory
left_memory found e short long is (inl memory) = memory
left_memory None e short long is (inr damaged) = absurd (long (is damaged))
left_memory (Some ids) e short long is (inr damaged) = let far = long (is damaged) in absurd (omega (arith, far, short))

-- writers that nothing was written by
pub grow_by_none : (a b : IndexBodiesState) → b ≡ a → AllGrow a b
grow_by_none a b same = record {
  terms = grows_not a.terms.writer b.terms.writer (ap (λ (s : IndexBodiesState). s.terms.writer) same);
  postings = grows_not a.postings.writer b.postings.writer (ap (λ (s : IndexBodiesState). s.postings.writer) same);
  positions = grows_not a.positions.writer b.positions.writer (ap (λ (s : IndexBodiesState). s.positions.writer) same);
}

-- and a refusal that is none of theirs
none_failed : {A : Type 0} (a b : IndexBodiesState) (e : Fault) → b ≡ a → ¬ (e ≡ Write) → CountsFailures {A = A} a b (Err e)
none_failed {A} a b e same apart =
    let here : CountsFailures {A = A} a a (Err e) = record {
      once = record { ok = tt; write = ((λ is. absurd (apart (cc))), (λ low. absurd (omega (arith, low)))); by_one = λ is. absurd (apart (cc)) };
      terms_kept = omega (arith);
      postings_kept = omega (arith);
      positions_kept = omega (arith);
    } in
    subst (λ (s : IndexBodiesState). CountsFailures {A = A} a s (Err e)) (sym same) here

abbrev r_ok : Unit {0} → Result (Unit {0}) Fault
r_ok x = Ok x

module _ {P : Type 0} (parts : List P) (old new : IndexSerializerState) where
  -- an allocation failure that changed nothing
  pub refused_before : (e : Fault) → e ≡ OutOfMemory → EndsParts parts old old (Err e)
  refused_before e memory = record {
    entries = refl;
    closes = tt;
    failures = none_failed old.bodies old.bodies e refl (λ is. absurd (cc));
    grow = grow_by_none old.bodies old.bodies refl;
    closed = λ is. absurd (cc);
    refused = λ closed. record { same = refl; none = tt; only = inl memory };
  }

  -- a field with terms that was written, or refused
  pub ends_field : (r : Result (Unit {0}) Fault) → 0 < length parts → EndsWriting old new r → AllGrow old.bodies new.bodies → EndsParts parts old new r
  ends_field (Ok x) some ends grow = record {
    entries = ends.entries;
    closes = ends.closing.closes.ok ∙ sym (was_open old.closed ends.closing.closed.1);
    failures = ends.failures;
    grow = grow;
    closed = λ is. absurd (cc);
    refused = λ closed. (let is = ends.closing.closed.1 closed in absurd (cc));
  }
    where
      was_open : (b : Bool) → (IsTrue b → r_ok x ≡ Err SerializerClosed) → b ≡ false
      was_open true is = let no = is refl in absurd (cc)
      was_open false is = refl
  ends_field (Err e) some ends grow = record {
    entries = ends.entries;
    closes = tt;
    failures = ends.failures;
    grow = grow;
    closed = λ is. (ends.closing.closed.0 is, some);
    refused = λ closed. record { same = ends.closing.refused closed; none = tt; only = inr (let is = ends.closing.closed.1 closed in cc) };
  }

-- a refusal that closes
pub refused_closes : {T : Type 0} (r : Result T Fault) (P : Type 0) (Q : Fault → Type 0) → OnErr r P → IfErr r (λ e. P ⊎ Q e)
refused_closes (Ok x) P Q p = tt
refused_closes (Err e) P Q p = inl p

-- the part of a field is determined by its contents
pub same_part : (entries : List SchemaEntry) (field tokens t : ℕ) (norms n : Option Norms) (terms us : List SortedTerm) → tokens ≡ t → norms ≡ n → terms ≡ us → part_of entries field tokens norms terms ≡ part_of entries field t n us
same_part entries field tokens t norms n terms us by_tokens by_norms by_terms = rw (by_tokens, by_norms, by_terms) refl

-- a call after others that went well and left open what they were given
closing_after : {A : Type 0} (old mid new : IndexSerializerState) (r : Result A Fault) → ¬ IsTrue old.closed → mid.closed ≡ false → EndsUnlessClosed mid.closed new.closed mid new r → EndsUnlessClosed old.closed new.closed old new r
closing_after old mid new r unclosed opened ends = record {
  closes = ends.closes;
  refused = λ closed. absurd (unclosed closed);
  closed = ((λ is. absurd (true≢false (sym (ends.closed.0 is) ∙ opened))), (λ closed. absurd (unclosed closed)));
}

pub ends_after : {A : Type 0} (old mid new : IndexSerializerState) (r : Result A Fault) (field : ℕ) (bodies : FieldBodies) → ¬ IsTrue old.closed → mid.closed ≡ false → mid.entries ≡ old.entries → AddsBodies old.bodies mid.bodies field bodies
    → EndsWriting mid new r → EndsWriting old new r
ends_after old mid new r field bodies unclosed opened same begun ends =
    let terms = begun.terms.writer.failed_calls in
    let postings = begun.postings.writer.failed_calls in
    let positions = begun.positions.writer.failed_calls in
    let none : failed_calls mid.bodies ≡ failed_calls old.bodies = omega (arith, terms, postings, positions) in
    record {
      entries = ends.entries ∙ same;
      failures = record {
        once = subst (λ (n : ℕ). CountsOnce n (failed_calls new.bodies) r) none ends.failures.once;
        terms_kept = omega (arith, ends.failures.terms_kept, terms);
        postings_kept = omega (arith, ends.failures.postings_kept, postings);
        positions_kept = omega (arith, ends.failures.positions_kept, positions);
      };
      closing = closing_after old mid new r unclosed opened ends.closing;
    }

-- the same, where those wrote nothing
pub ends_after_none : {A : Type 0} (old mid new : IndexSerializerState) (r : Result A Fault) → old.closed ≡ false → mid.closed ≡ false → mid.entries ≡ old.entries → mid.bodies ≡ old.bodies → EndsWriting mid new r → EndsWriting old new r
ends_after_none old mid new r unclosed opened same kept ends = record {
  entries = ends.entries ∙ same;
  failures = subst (λ (b : IndexBodiesState). CountsFailures b new.bodies r) kept ends.failures;
  closing = closing_after old mid new r (λ closed. absurd (true≢false (sym closed ∙ unclosed))) opened ends.closing;
}

-- a refusal of a call that writes nothing
pub ends_in_memory : {A : Type 0} (old new : IndexSerializerState) (e : Fault) → ¬ (e ≡ Write) → EndsInMemory {A = A} old new (Err e) → EndsWriting {A = A} old new (Err e)
ends_in_memory old new e apart ends = record { entries = ends.entries; failures = none_failed old.bodies new.bodies e ends.bodies apart; closing = ends.closing }

-- what was open isn't refused for being closed
pub not_closed : {A : Type 0} (e : Fault) (closed : Bool) → (IsErrOf {T = A} (Err e) SerializerClosed ↔ IsTrue closed) → closed ≡ false → ¬ (e ≡ SerializerClosed)
not_closed e closed iff opened is = true≢false (sym (iff.0 (ap Err is)) ∙ opened)

pub push_apart : (e : Fault) → (e ≡ OutOfMemory) ⊎ (e ≡ SerializerClosed) ⊎ (e ≡ Limit limit.BlockFrequencySum) → ¬ (e ≡ Write)
push_apart e (inl memory) is = absurd (cc)
push_apart e (inr (inl closed)) is = absurd (cc)
push_apart e (inr (inr sum)) is = absurd (cc)

-- why a term's entries can't be pushed
pub push_fault : {A B C : Type 0} (e : Fault) → ¬ (e ≡ SerializerClosed) → (e ≡ Limit limit.BlockFrequencySum → A) → (e ≡ OutOfMemory) ⊎ (e ≡ SerializerClosed) ⊎ (e ≡ Limit limit.BlockFrequencySum) → IsFaultBy A B C e
push_fault e apart large (inl memory) = inl memory
push_fault e apart large (inr (inl closed)) = absurd (apart closed)
push_fault e apart large (inr (inr sum)) = inr (inr (inl (sum, large sum)))

-- a field that was refused after others that were written
pub stays_between : (old mid new : IndexSerializerState) (fs : List FieldPart) (e : Fault) → HasFields old.entries old.bodies mid.bodies fs → mid.closed ≡ old.closed → IsTrue new.closed ⊎ ((e ≡ OutOfMemory) × (new ≡ mid)) → ClosesOrStays old new e
stays_between old mid new fs e fields closed (inl closes) = inl closes
stays_between old mid new fs e fields closed (inr stays) =
    inr (stays.0, record { fs = fs; fields = subst (λ (s : IndexSerializerState). HasFields old.entries old.bodies s.bodies fs) (sym stays.1) fields; closed = ap (λ (s : IndexSerializerState). s.closed) stays.1 ∙ closed })

-- and how that ends
pub ends_between : {P : Type 0} (parts : List P) (ts : List SortedTerm) (old mid new : IndexSerializerState) (fs : List FieldPart) (e : Fault) → HasFields old.entries old.bodies mid.bodies fs → mid.closed ≡ old.closed → mid.entries ≡ old.entries
    → (IsTrue old.closed → mid ≡ old) → 0 < length parts → EndsParts ts mid new (Err e) → EndsParts parts old new (Err e)
ends_between parts ts old mid new fs e fields closed entries kept some ends =
    let terms = fields.terms.writer.failed_calls in
    let postings = fields.postings.writer.failed_calls in
    let positions = fields.positions.writer.failed_calls in
    let none : failed_calls mid.bodies ≡ failed_calls old.bodies = omega (arith, terms, postings, positions) in
    record {
      entries = ends.entries ∙ entries;
      closes = tt;
      failures = record {
        once = subst (λ (n : ℕ). CountsOnce {A = Unit {0}} n (failed_calls new.bodies) (Err e)) none ends.failures.once;
        terms_kept = omega (arith, ends.failures.terms_kept, terms);
        postings_kept = omega (arith, ends.failures.postings_kept, postings);
        positions_kept = omega (arith, ends.failures.positions_kept, positions);
      };
      grow = AllGrow-trans old.bodies mid.bodies new.bodies (fields_grow old.entries old.bodies mid.bodies fs fields) ends.grow;
      closed = λ is. (sym closed ∙ (ends.closed is).0, some);
      refused = λ was. (let stays = ends.refused (closed ∙ was) in record { same = stays.same ∙ kept was; none = tt; only = stays.only });
    }

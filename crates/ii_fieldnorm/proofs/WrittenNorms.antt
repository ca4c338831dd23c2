-- The file that a field norms writer writes, and how it is read back.
use Rattle.std.proofs.Common.{◌≡◌, ℕ, zero, suc, ◌+◌, ◌^◌, ◌<◌, ◌≤◌, Bool, true, false, ◌||◌, ◌==◌, nat_le, List, [], ◌∷◌, ◌++◌, length, Option, Some, None, Result, Ok, Err, IfSome, OnOk, IsErrOf, refl, ap, ◌∙◌, arith, ⊎_elim}
use Rattle.std.proofs.lemmas.Bool.{le-leb}
use Rattle.std.proofs.lemmas.Bool.Decides.{nat_tests}
use Rattle.std.proofs.lemmas.List.Folds.{list_all-append}
use Rattle.ii_io.specs.declared.faults.Fault.{Fault}
use Rattle.ii_io.specs.declared.faults.Fault.TheVariants.{OutOfMemory}
use Rattle.ii_io.specs.CountingWriter.{CountingWriterState, WritesUnlessClosed, WritesInMemory}
use Rattle.ii_io.proofs.WriteSteps.{writes_then, memory_refused_by}
use Rattle.ii_io.specs.Composite.{Body, body_of, bodies_bytes, fit_fields, places_from, table_bytes}
use Rattle.ii_io.specs.CompositeWrite.{CompositeWriteState, has_start, starts_from, places_of, HasBodies, WroteComposite}
use Rattle.ii_io.proofs.CompositeSteps.{places_of-bodies}
use Rattle.ii_fieldnorm.specs.Buffers.{Buffers, buffer_of, norm_bodies, norm_bodies_from, AreUnwritten, AddsNorms, WritesNorms, WroteNorms, rest_of_file}
use Rattle.ii_fieldnorm.proofs.BufferLemmas.{eqb_below}

eqb_above : (a b : ℕ) → b < a → (a == b) ≡ false
eqb_above a b h = grind (arith, nat_tests)

eqb_same : (a : ℕ) → (a == a) ≡ true
eqb_same a = grind (arith, nat_tests)

norms_fields : (field : ℕ) (bs : Buffers) → field + length bs ≤ 2 ^ 32 → fit_fields (norm_bodies_from field bs) ≡ true
norms_fields field [] h = refl
norms_fields field (None ∷ bs) h = norms_fields (field + 1) bs (omega arith)
norms_fields field (Some ids ∷ bs) h =
    rw (le-leb (field + 1) (2 ^ 32) (omega arith), norms_fields (field + 1) bs (omega arith)) refl

none_before : (first field : ℕ) (bs : Buffers) → field < first → body_of field (norm_bodies_from first bs) ≡ None
none_before first field [] h = refl
none_before first field (None ∷ bs) h = none_before (first + 1) field bs (omega arith)
none_before first field (Some ids ∷ bs) h = rw (eqb_above first field h) (none_before (first + 1) field bs (omega arith))

skips : (field first : ℕ) (ids : List ℕ) (rest : List Body) → first < field → body_of field (record { field = first; bytes = ids } ∷ rest) ≡ body_of field rest
skips field first ids rest h = rw (eqb_below first field h) refl

-- each field's body is its buffer
body_of-norms : (first k : ℕ) (bs : Buffers) → body_of (first + k) (norm_bodies_from first bs) ≡ buffer_of k bs
body_of-norms first k [] = refl
body_of-norms first zero (None ∷ bs) =
    let same : first + 0 ≡ first = omega arith in
    rw same (none_before (first + 1) first bs (omega arith))
body_of-norms first zero (Some ids ∷ bs) =
    let same : first + 0 ≡ first = omega arith in
    rw (same, eqb_same first) refl
body_of-norms first (suc k) (None ∷ bs) =
    let same : first + suc k ≡ first + 1 + k = omega arith in
    rw same (body_of-norms (first + 1) k bs)
body_of-norms first (suc k) (Some ids ∷ bs) =
    let rest = norm_bodies_from (first + 1) bs in
    let same : first + suc k ≡ first + 1 + k = omega arith in
    skips (first + suc k) first ids rest (omega arith) ∙ ap (λ (f : ℕ). body_of f rest) same ∙ body_of-norms (first + 1) k bs

pub body_of-norm_bodies : (field : ℕ) (bs : Buffers) → body_of field (norm_bodies bs) ≡ buffer_of field bs
body_of-norm_bodies field bs =
    let same : 0 + field ≡ field = omega arith in
    rw same at (body_of-norms 0 field bs)

-- a field that was not written before is found after what was
after_cases : (t : Bool) (field : ℕ) (b : Body) (found : Option (List ℕ)) (bs rest : List Body) (has : Bool) → (b.field == field) ≡ t → (has ≡ false → body_of field (bs ++ rest) ≡ found) → (t || has) ≡ false → body_of field (b ∷ (bs ++ rest)) ≡ found
after_cases true field b found bs rest has e ih none = absurd (cc)
after_cases false field b found bs rest has e ih none = rw e (ih none)

body_of-after : (field start : ℕ) (bodies rest : List Body) → has_start field (starts_from start bodies) ≡ false → body_of field (bodies ++ rest) ≡ body_of field rest
body_of-after field start [] rest none = refl
body_of-after field start (b ∷ bs) rest none =
    after_cases (b.field == field) field b (body_of field rest) bs rest (has_start field (starts_from (start + length b.bytes) bs)) refl (body_of-after field (start + length b.bytes) bs rest) none

no_memory : (is_closed : Bool) (old new : CountingWriterState) (bytes : List ℕ) (result : Result (Unit {0}) Fault) → WritesUnlessClosed is_closed old new bytes result → IsErrOf result OutOfMemory → ⊥
no_memory false old new bytes result k none =
    let only = rw none at (k.writes refl).only in
    ⊎_elim (λ e. absurd (cc)) (λ e. absurd (cc)) only
no_memory true old new bytes result k none =
    let closed = (k.refused refl).0 in
    absurd (cc)

module _ (a b : CompositeWriteState) (new initial : CountingWriterState) (bs : Buffers) (bodies : List Body) (has : HasBodies initial a bodies) where
  abbrev norms : List ℕ
  norms = bodies_bytes (norm_bodies bs)

  -- all buffers were written, and the serializer is closed
  pub closing : (result : Result (Unit {0}) Fault) → AddsNorms a b bs → WritesNorms a b norms (Ok tt) → WritesUnlessClosed b.closed b.writer new (table_bytes (places_of b)) result → WritesInMemory a.closed a.writer new (rest_of_file bodies bs) result
  closing result adds w k = record {
    writes = λ still had. rw (← (places_of-bodies initial b (bodies ++ norm_bodies bs) (adds.bodies initial bodies has))) (writes_then a.writer b.writer new norms (table_bytes (places_of b)) result adds.wrote (k.writes (w.writes still).1.ok));
    memory = λ none. absurd (no_memory b.closed b.writer new (table_bytes (places_of b)) result k none);
    refused = λ closed. let step = w.refused closed in let end = k.refused step.1 in (end.0, end.1 ∙ step.0);
  }

  refused_cases : (t : Bool) (f : Fault) (bytes : List ℕ) (result : Result (Unit {0}) Fault) → a.closed ≡ t → WritesNorms a b norms (Err f) → WritesUnlessClosed b.closed b.writer new bytes result → WritesInMemory t a.writer new (rest_of_file bodies bs) (Err f)
  refused_cases false f bytes result is w k =
      let step = w.writes is in
      let end = (k.refused step.1.err).1 in
      rw end (memory_refused_by a.writer b.writer norms (table_bytes (places_from 0 (bodies ++ norm_bodies bs))) (Err f) refl step.0)
  refused_cases true f bytes result is w k =
      let step = w.refused is in
      let end = k.refused step.1 in
      record { writes = λ still. absurd (cc); memory = λ none. absurd (let which = step.2 in cc); refused = λ _. (ap Err step.2, end.1 ∙ step.0) }

  -- a buffer failed, which closed the serializer
  pub refused : (f : Fault) (bytes : List ℕ) (result : Result (Unit {0}) Fault) → WritesNorms a b norms (Err f) → WritesUnlessClosed b.closed b.writer new bytes result → WritesInMemory a.closed a.writer new (rest_of_file bodies bs) (Err f)
  refused f bytes result w k = refused_cases a.closed f bytes result refl w k

  module _ (fits : length bs ≤ 2 ^ 32) (fields : fit_fields bodies ≡ true) (unwritten : a.closed ≡ false → AreUnwritten a bs) where
    found : (field : ℕ) (o : Option (List ℕ)) → a.closed ≡ false → buffer_of field bs ≡ o → IfSome o (λ ids. body_of field (bodies ++ norm_bodies bs) ≡ Some ids)
    found field None still e = tt
    found field (Some ids) still e =
        let new_field = rw has.starts at (rw e at (unwritten still field)) in
        body_of-after field 0 bodies (norm_bodies bs) new_field ∙ body_of-norm_bodies field bs ∙ e

    both_fit : fit_fields (bodies ++ norm_bodies bs) ≡ true
    both_fit = rw (list_all-append (λ (b : Body). nat_le (b.field + 1) (2 ^ 32)) bodies (norm_bodies bs), fields, norms_fields 0 bs (omega arith)) refl

    norms_cases : (t : Bool) (result : Result (Unit {0}) Fault) (bytes : List ℕ) → a.closed ≡ t → AddsNorms a b bs → WritesNorms a b norms (Ok tt) → WritesUnlessClosed b.closed b.writer new bytes result
        → ((before : CountingWriterState) (all : List Body) → HasBodies before b all → fit_fields all ≡ true → OnOk result (WroteComposite before new all)) → OnOk result (WroteNorms initial new bodies bs)
    norms_cases t (Err e) bytes is adds w k closes = tt
    norms_cases false (Ok u) bytes is adds w k closes =
        record { composite = closes initial (bodies ++ norm_bodies bs) (adds.bodies initial bodies has) both_fit; norms = λ field. found field (buffer_of field bs) is refl }
    norms_cases true (Ok u) bytes is adds w k closes =
        let closed = (k.refused (w.refused is).1).0 in
        absurd (cc)

    pub wrote_norms : (result : Result (Unit {0}) Fault) (bytes : List ℕ) → AddsNorms a b bs → WritesNorms a b norms (Ok tt) → WritesUnlessClosed b.closed b.writer new bytes result
        → ((before : CountingWriterState) (all : List Body) → HasBodies before b all → fit_fields all ≡ true → OnOk result (WroteComposite before new all)) → OnOk result (WroteNorms initial new bodies bs)
    wrote_norms result bytes = norms_cases a.closed result bytes refl

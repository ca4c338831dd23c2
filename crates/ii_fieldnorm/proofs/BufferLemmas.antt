-- Laws of the buffers of a field norms writer.
use Rattle.std.proofs.Common.{◌≡◌, ℕ, zero, suc, ◌+◌, ◌-◌, ◌^◌, ◌<◌, ◌≤◌, Bool, true, false, ◌==◌, IsTrue, IfSome, OnOk, is_err, List, [], ◌∷◌, ◌++◌, map, length, take, drop, get_or, set, Option, Some, None, Result, Ok, Err, OnErr, refl, sym, ap, ◌∙◌, length-append, append_assoc, arith}
use Rattle.std.specs.List.{enumerate_from}
use Rattle.std.specs.Option.{option_map}
use Rattle.std.proofs.lemmas.List.{take_more, length-take-le, set-get_or, append-nil}
use Rattle.std.proofs.lemmas.List.Folds.{list_any-append}
use Rattle.std.proofs.lemmas.Grind.{flat_map-append}
use Rattle.std.proofs.lemmas.Option.{slice_get-get_or}
use Rattle.std.proofs.Math.Bool.{or-false}
use Rattle.std.proofs.lemmas.List.Edits.{map_over_more}
use Rattle.std.proofs.lemmas.Bool.Decides.{nat_tests}
use Rattle.ii_io.specs.declared.faults.Fault.{Fault}
use Rattle.ii_io.specs.declared.composite_file.place.BodyStart.{BodyStart}
use Rattle.ii_io.proofs.WriteSteps.{wrote_nothing, Wrote-trans, memory_then, memory_refused_by}
use Rattle.ii_io.specs.Composite.{Body, bodies_bytes}
use Rattle.ii_io.specs.CompositeWrite.{CompositeWriteState, has_start, next_start}
use Rattle.ii_io.proofs.CompositeSteps.{HasBodies-more}
use Rattle.ii_base.specs.Schema.{SchemaEntry}
use Rattle.ii_fieldnorm.specs.Buffers.{Buffers, filled, filled_buffers, buffer_of, IsFilledFront, norm_bodies, norm_bodies_from, AreUnwritten, AddsBuffer, AddsNorms, WritesNorms, empty_buffer, buffer_bytes}

norm_bodies_from-more : (field : ℕ) (bs : Buffers) (b : Option (List ℕ)) → norm_bodies_from field (bs ++ b ∷ []) ≡ norm_bodies_from field bs ++ norm_bodies_from (field + length bs) (b ∷ [])
norm_bodies_from-more field [] b =
    let same : field ≡ field + 0 = omega arith in
    ap (λ (f : ℕ). norm_bodies_from f (b ∷ [])) same
norm_bodies_from-more field (None ∷ bs) b =
    let same : field + 1 + length bs ≡ field + suc (length bs) = omega arith in
    rw (← same) (norm_bodies_from-more (field + 1) bs b)
norm_bodies_from-more field (Some ids ∷ bs) b =
    let same : field + 1 + length bs ≡ field + suc (length bs) = omega arith in
    rw (← same) (ap (λ (bodies : List Body). record { field = field; bytes = ids } ∷ bodies) (norm_bodies_from-more (field + 1) bs b))

pub eqb_below : (a b : ℕ) → a < b → (a == b) ≡ false
eqb_below a b h = grind (arith, nat_tests)

-- the buffers of no field were written
nothing_added : (c : CompositeWriteState) → AddsNorms c c []
nothing_added c = record {
  wrote = wrote_nothing c.writer;
  count = omega arith;
  starts = λ field above. refl;
  bodies = λ initial bodies has. rw append-nil has;
}

added_cases : (a b c : CompositeWriteState) (front : Buffers) (field : ℕ) (x : Option (List ℕ)) → field ≡ length front → AddsNorms a b front → AddsBuffer b c field x → AddsNorms a c (front ++ x ∷ [])
added_cases a b c front field None place adds none =
    let bodies : norm_bodies (front ++ None ∷ []) ≡ norm_bodies front = norm_bodies_from-more 0 front None ∙ append-nil (norm_bodies front) in
    record {
      wrote = rw (none, bodies) adds.wrote;
      count = rw (none, bodies) adds.count;
      starts = λ f above. rw none (adds.starts f (omega (arith, length-append front (None ∷ []))));
      bodies = λ initial before has. rw (none, bodies) (adds.bodies initial before has);
    }
added_cases a b c front field (Some ids) place adds one =
    let body : Body = record { field = field; bytes = ids } in
    let first : 0 + length front ≡ field = omega arith in
    let bodies : norm_bodies (front ++ Some ids ∷ []) ≡ norm_bodies front ++ body ∷ [] = rw first at (norm_bodies_from-more 0 front (Some ids)) in
    let bytes : bodies_bytes (norm_bodies front ++ body ∷ []) ≡ bodies_bytes (norm_bodies front) ++ ids = flat_map-append (λ (b : Body). b.bytes) (norm_bodies front) (body ∷ []) ∙ ap (λ (xs : List ℕ). bodies_bytes (norm_bodies front) ++ xs) (append-nil ids) in
    let count = adds.count in
    let within = length-append front (Some ids ∷ []) in
    record {
      wrote = rw (bodies, bytes) (Wrote-trans a.writer b.writer c.writer (bodies_bytes (norm_bodies front)) ids adds.wrote one.writer);
      count = rw (one.starts, bodies) (omega (arith, length-append b.starts (next_start b field ∷ []), length-append (norm_bodies front) (body ∷ [])));
      starts = λ f above. rw (one.starts, list_any-append (λ (s : BodyStart). s.field == f) b.starts (next_start b field ∷ []), eqb_below field f (omega arith), adds.starts f (omega arith)) (or-false (has_start f a.starts));
      bodies = λ initial before has. rw (bodies, ← (append_assoc before (norm_bodies front) (body ∷ []))) (HasBodies-more initial b c (before ++ norm_bodies front) field ids (adds.bodies initial before has) one);
    }

-- The state of a writer after the first buffers were written, or failed at the first.
pub record HasWritten (old new : CompositeWriteState) (front : Buffers) : Type 0 where
  pub adds : AddsNorms old new front
  pub closed : new.closed ≡ old.closed
  pub same : IsTrue old.closed → new.writer ≡ old.writer

pub written_first : (c : CompositeWriteState) → HasWritten c c []
written_first c = record { adds = nothing_added c; closed = refl; same = λ closed. refl }

-- a buffer that could not be filled stays, and so do those after it
pub filled_front : {A E : Type 0} (r : Result A E) (docs : ℕ) (init now : Buffers) (i : ℕ) (old : Option (List ℕ)) → now ≡ filled_buffers docs (take i init) ++ drop i init → old ≡ get_or now i old
    → OnErr r (IsFilledFront docs init (set now i old))
filled_front (Ok x) docs init now i old e here = tt
filled_front (Err f) docs init now i old e here = (i, ap (set now i) here ∙ set-get_or now i old ∙ e)

pub fill_step : (docs : ℕ) (init now : Buffers) (i : ℕ) (old new : Option (List ℕ)) → i < length init → now ≡ filled_buffers docs (take i init) ++ drop i init → old ≡ get_or now i old → new ≡ option_map (filled docs) old → set now i new ≡ filled_buffers docs (take (i + 1) init) ++ drop (i + 1) init
fill_step docs init now i old new within e here filling = ap (set now i) filling ∙ map_over_more (option_map (filled docs)) init now i old within e here

empty_entries : (i : ℕ) (es : List SchemaEntry) → map (λ (f : ℕ × SchemaEntry). empty_buffer f.1) (enumerate_from i es) ≡ map empty_buffer es
empty_entries i [] = refl
empty_entries i (e ∷ es) = ap (λ (bs : Buffers). empty_buffer e ∷ bs) (empty_entries (i + 1) es)

-- a buffer was made for each entry
pub all_made : (bs : Buffers) (rest : List (ℕ × SchemaEntry)) (es : List SchemaEntry) → rest ≡ [] → bs ++ map (λ (f : ℕ × SchemaEntry). empty_buffer f.1) rest ≡ map (λ (f : ℕ × SchemaEntry). empty_buffer f.1) (enumerate_from 0 es) → bs ≡ map empty_buffer es
all_made bs rest es none made =
    let whole = rw none at made in
    sym (append-nil bs) ∙ whole ∙ empty_entries 0 es

-- the bytes after a buffer and those before it
bytes_after : ℕ → Buffers → ℕ → List ℕ
bytes_after field [] i = []
bytes_after field (b ∷ bs) zero = bodies_bytes (norm_bodies_from (field + 1) bs)
bytes_after field (b ∷ bs) (suc i) = bytes_after (field + 1) bs i

all_bytes : (field : ℕ) (bs : Buffers) (i : ℕ) (b : Option (List ℕ)) → i < length bs → b ≡ get_or bs i b
    → bodies_bytes (norm_bodies_from field bs) ≡ (bodies_bytes (norm_bodies_from field (take i bs)) ++ buffer_bytes b) ++ bytes_after field bs i
unfolding bytes_after
all_bytes field [] i b within here = absurd (omega arith)
all_bytes field (None ∷ bs) zero b within here = rw here refl
all_bytes field (Some ids ∷ bs) zero b within here = rw here refl
all_bytes field (None ∷ bs) (suc i) b within here = all_bytes (field + 1) bs i b (omega arith) here
all_bytes field (Some ids ∷ bs) (suc i) b within here =
    let front = bodies_bytes (norm_bodies_from (field + 1) (take i bs)) in
    let rest = bytes_after (field + 1) bs i in
    ap (λ (xs : List ℕ). ids ++ xs) (all_bytes (field + 1) bs i b (omega arith) here)
    ∙ sym (append_assoc ids (front ++ buffer_bytes b) rest)
    ∙ ap (λ (xs : List ℕ). xs ++ rest) (sym (append_assoc ids front (buffer_bytes b)))

-- a buffer after the first ones, which was written or failed
stays_open : (old new : CompositeWriteState) (bytes : List ℕ) (result : Result (Unit {0}) Fault) (t : Bool) → old.closed ≡ t → false ≡ is_err result → WritesNorms old new bytes result → new.closed ≡ old.closed
stays_open old new bytes (Err e) t is went w = absurd (cc)
stays_open old new bytes (Ok u) false is went w = (w.writes is).1.ok ∙ sym is
stays_open old new bytes (Ok u) true is went w = (w.refused is).1 ∙ sym is

module _ (a b c : CompositeWriteState) (bs : Buffers) (i : ℕ) (x : Option (List ℕ)) (within : i < length bs) (here : x ≡ get_or bs i x) (has : HasWritten a b (take i bs)) where
  pub written_more : (result : Result (Unit {0}) Fault) → false ≡ is_err result → WritesNorms b c (buffer_bytes x) result → OnOk result (AddsBuffer b c i x) → HasWritten a c (take (i + 1) bs)
  written_more (Err e) went w one = absurd (cc)
  written_more (Ok u) went w one =
      let front : take (i + 1) bs ≡ take i bs ++ x ∷ [] = take_more bs i x within ∙ ap (λ (y : Option (List ℕ)). take i bs ++ y ∷ []) (sym here) in
      let place : i ≡ length (take i bs) = sym (length-take-le i bs (omega arith)) in
      record {
        adds = rw front (added_cases a b c (take i bs) i x place has.adds one);
        closed = stays_open b c (buffer_bytes x) (Ok u) b.closed refl went w ∙ has.closed;
        same = λ closed. (w.refused (has.closed ∙ closed)).0 ∙ has.same closed;
      }

  pub written_refused : (result : Result (Unit {0}) Fault) → true ≡ is_err result → WritesNorms b c (buffer_bytes x) result → WritesNorms a c (bodies_bytes (norm_bodies bs)) result
  written_refused result refused w =
      let front = bodies_bytes (norm_bodies (take i bs)) in
      record {
        writes = λ still.
            let step = w.writes (has.closed ∙ still) in
            let both = memory_then a.writer b.writer c.writer front (buffer_bytes x) result has.adds.wrote step.0 in
            (rw (all_bytes 0 bs i x within here) (memory_refused_by a.writer c.writer (front ++ buffer_bytes x) (bytes_after 0 bs i) result refused both), step.1);
        refused = λ closed. let step = w.refused (has.closed ∙ closed) in (step.0 ∙ has.same closed, step.1, step.2);
      }

-- a buffer's body comes after those before it
front_bodies : (field : ℕ) (bs : Buffers) (i : ℕ) (ids : List ℕ) → i < length bs → Some ids ≡ get_or bs i (Some ids) → suc (length (norm_bodies_from field (take i bs))) ≤ length (norm_bodies_from field bs)
front_bodies field [] i ids within here = absurd (omega arith)
front_bodies field (None ∷ bs) zero ids within here = absurd (cc)
front_bodies field (Some other ∷ bs) zero ids within here = omega arith
front_bodies field (None ∷ bs) (suc i) ids within here = front_bodies (field + 1) bs i ids (omega arith) here
front_bodies field (Some other ∷ bs) (suc i) ids within here =
    let ih = front_bodies (field + 1) bs i ids (omega arith) here in
    omega arith

buffer_here : (bs : Buffers) (i : ℕ) (ids : List ℕ) → i < length bs → Some ids ≡ get_or bs i (Some ids) → buffer_of i bs ≡ Some ids
buffer_here bs i ids within here = rw (slice_get-get_or bs i (Some ids) within) (sym here)

-- what a field that is written next is asked for
pub next_asked : (a b : CompositeWriteState) (bs : Buffers) (i : ℕ) (x : Option (List ℕ)) → i < length bs → x ≡ get_or bs i x → HasWritten a b (take i bs)
    → (a.closed ≡ false → AreUnwritten a bs) → (a.closed ≡ false → length a.starts + length (norm_bodies bs) < 2 ^ 32)
    → b.closed ≡ false → IfSome x (λ _. (has_start i b.starts ≡ false) × length b.starts < 2 ^ 32 - 1)
next_asked a b bs i None within here has unwritten few still = tt
next_asked a b bs i (Some ids) within here has unwritten few still =
    let start : a.closed ≡ false = sym has.closed ∙ still in
    let size = length-take-le i bs (omega arith) in
    let count = has.adds.count in
    let all = few start in
    let bodies = front_bodies 0 bs i ids within here in
    let new = rw (buffer_here bs i ids within here) at (unwritten start i) in
    (has.adds.starts i (omega arith) ∙ new, omega arith)

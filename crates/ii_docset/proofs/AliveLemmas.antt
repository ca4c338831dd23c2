-- Laws of counting alive documents.
use Rattle.std.proofs.Common.{◌≡◌, ◌≢◌, ℕ, ◌+◌, ◌<◌, ◌≤◌, Bool, true, false, not, List, [], ◌∷◌, drop, length, slice_index_or, refl, arith}
use Rattle.std.proofs.lemmas.List.Elements.{All-drop}
use Rattle.std.proofs.lemmas.List.Filters.{length-filter_both}
use Rattle.ii_base.specs.declared.doc_id.TheConstants.{TERMINATED}
use Rattle.ii_docset.specs.Alive.{IsCovered, alive_in}
use Rattle.ii_base.specs.Entries.{Entry}
use Rattle.ii_docset.specs.Cursor.{doc_at, IsSound}
use Rattle.ii_docset.proofs.CursorLemmas.{length_below}
use mir.Val.{bool_byte}

pub few_alive : (alive : List Bool) (es : List Entry) → IsSound es → alive_in alive es ≤ TERMINATED
few_alive alive es sound =
    let p : Entry → Bool = λ e. slice_index_or alive e.doc false in
    omega (arith, length-filter_both p (λ e. not (p e)) (λ e. refl) es, length_below es sound.ascending)

counted_flag : (alive : List Bool) (e : Entry) (es : List Entry) (flag : Bool) → slice_index_or alive e.doc false ≡ flag → bool_byte flag + alive_in alive es ≡ alive_in alive (e ∷ es)
counted_flag alive e es true h = rw (h) (omega arith)
counted_flag alive e es false h = rw (h) (omega arith)

counted_step : (alive : List Bool) (es : List Entry) → doc_at es ≢ TERMINATED → bool_byte (slice_index_or alive (doc_at es) false) + alive_in alive (drop 1 es) ≡ alive_in alive es
counted_step alive [] here = absurd (here refl)
counted_step alive (e ∷ es) here = counted_flag alive e es (slice_index_or alive e.doc false) refl

-- the current document is counted if it is alive
pub counted_more : (alive : List Bool) (now after : List Entry) (count doc n all : ℕ) (flag : Bool) → doc ≡ doc_at now → doc ≢ TERMINATED → flag ≡ slice_index_or alive doc false → n ≡ bool_byte flag → after ≡ drop 1 now → count + alive_in alive now ≡ all → count + n + alive_in alive after ≡ all
counted_more alive now after count doc n all flag here not_end told as_number next counted =
    let step = counted_step alive now (rw (← here) not_end) in
    let same : n ≡ bool_byte (slice_index_or alive (doc_at now) false) = rw (← here, ← told) as_number in
    let left : alive_in alive after ≡ alive_in alive (drop 1 now) = rw (next) refl in
    omega (arith, step, same, left, counted)

pub covered_more : (alive : List Bool) (now after : List Entry) → after ≡ drop 1 now → IsCovered alive now → IsCovered alive after
covered_more alive now after next covered = rw (next) (All-drop (λ (e : Entry). e.doc < length alive) 1 now covered)

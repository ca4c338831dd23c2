-- Laws of writing a composite file.
use Rattle.std.proofs.Common.{◌≡◌, ℕ, zero, suc, ◌+◌, ◌*◌, ◌<◌, List, [], ◌∷◌, ◌++◌, length, take, drop, get_or, Some, Result, is_err, true, false, refl, sym, ap, ◌∙◌, arith, length-append, append_assoc}
use Rattle.std.specs.List.{flat_map, slice_get}
use Rattle.std.proofs.lemmas.List.{append-nil, take-append-drop}
use Rattle.std.proofs.lemmas.Grind.{flat_map-append}
use Rattle.ii_io.specs.declared.composite_file.place.Place.{Place}
use Rattle.ii_io.specs.declared.composite_file.place.BodyStart.{BodyStart}
use Rattle.ii_io.specs.declared.faults.Fault.{Fault}
use Rattle.ii_io.specs.CountingWriter.{CountingWriterState, Wrote, Writes}
use Rattle.ii_io.specs.StepLemmas.{some-same}
use Rattle.ii_io.specs.Numbers.{le_bytes}
use Rattle.ii_io.specs.NumberLemmas.{length_le_bytes}
use Rattle.ii_io.specs.Composite.{place_bytes, table_bytes}
use Rattle.ii_io.specs.CompositeLemmas.{length_place_bytes}
use Rattle.ii_io.proofs.WriteSteps.{writes_then, writes_refused_by, writes_went}
use Rattle.ii_io.specs.CompositeWrite.{places_until}

-- a place ends where the next body begins
pub place_next : (ss : List BodyStart) (i end : ℕ) (s t : BodyStart) → suc i < length ss → s ≡ get_or ss i s → t ≡ get_or ss (suc i) t
    → slice_get (places_until ss end) i ≡ Some (record { field = s.field; start = s.start; end = t.start })
place_next [] i end s t h f g = absurd (omega arith)
place_next (a ∷ []) i end s t h f g = absurd (omega arith)
place_next (a ∷ b ∷ ss) zero end s t h f g = rw (f, g) refl
place_next (a ∷ b ∷ ss) (suc i) end s t h f g = place_next (b ∷ ss) i end s t (omega arith) f g

-- the last one at the end
pub place_last : (ss : List BodyStart) (i end : ℕ) (s : BodyStart) → length ss ≡ suc i → s ≡ get_or ss i s
    → slice_get (places_until ss end) i ≡ Some (record { field = s.field; start = s.start; end = end })
place_last [] i end s h f = absurd (omega arith)
place_last (a ∷ []) zero end s h f = rw f refl
place_last (a ∷ []) (suc i) end s h f = absurd (omega arith)
place_last (a ∷ b ∷ ss) zero end s h f = absurd (omega arith)
place_last (a ∷ b ∷ ss) (suc i) end s h f = place_last (b ∷ ss) i end s (omega arith) f

pub length-places_until : (ss : List BodyStart) (end : ℕ) → length (places_until ss end) ≡ length ss
length-places_until [] end = refl
length-places_until (a ∷ []) end = refl
length-places_until (a ∷ b ∷ ss) end = ap suc (length-places_until (b ∷ ss) end)

pub length-places_bytes : (ps : List Place) → length (flat_map place_bytes ps) ≡ 20 * length ps
length-places_bytes [] = refl
length-places_bytes (p ∷ ps) =
    let ih = length-places_bytes ps in
    let size = length_place_bytes p in
    omega (arith, length-append (place_bytes p) (flat_map place_bytes ps))

pub length-table_bytes : (ps : List Place) → length (table_bytes ps) ≡ 20 * length ps + 4
length-table_bytes ps =
    let places = length-places_bytes ps in
    let size = length_le_bytes 4 (length ps) in
    omega (arith, length-append (flat_map place_bytes ps) (le_bytes 4 (length ps)))

-- one more place
pub places_more : (ps : List Place) (i : ℕ) (p : Place) → slice_get ps i ≡ Some p → flat_map place_bytes (take (suc i) ps) ≡ flat_map place_bytes (take i ps) ++ place_bytes p
places_more [] i p e = absurd (cc)
places_more (q ∷ ps) zero p e =
    let same = some-same e in
    append-nil (place_bytes q) ∙ ap place_bytes same
places_more (q ∷ ps) (suc i) p e =
    ap (λ (bs : List ℕ). place_bytes q ++ bs) (places_more ps i p e) ∙ sym (append_assoc (place_bytes q) (flat_map place_bytes (take i ps)) (place_bytes p))

-- a place that failed, after others
pub place_refused : (a b c : CountingWriterState) (ps : List Place) (i : ℕ) (p : Place) (result : Result (Unit {0}) Fault) → slice_get ps i ≡ Some p → Wrote a b (flat_map place_bytes (take i ps)) → true ≡ is_err result
    → Writes b c (place_bytes p) result → Writes a c (flat_map place_bytes ps) result
place_refused a b c ps i p result here front refused writes =
    let more = places_more ps i p here in
    let parts : flat_map place_bytes ps ≡ flat_map place_bytes (take (suc i) ps) ++ flat_map place_bytes (drop (suc i) ps) =
    ap (flat_map place_bytes) (sym (take-append-drop (suc i) ps)) ∙ flat_map-append place_bytes (take (suc i) ps) (drop (suc i) ps)
    in
    rw (parts, more) (writes_refused_by a c (flat_map place_bytes (take i ps) ++ place_bytes p) (flat_map place_bytes (drop (suc i) ps)) result refused (writes_then a b c (flat_map place_bytes (take i ps)) (place_bytes p) result front writes))

-- the number, which failed or is followed by a flush
pub number_refused : (a b c : CountingWriterState) (ps : List Place) (n : ℕ) (first result : Result (Unit {0}) Fault) → length ps ≡ n → false ≡ is_err first → Writes a b (flat_map place_bytes ps) first → Writes b c (le_bytes 4 n) result
    → Writes a c (table_bytes ps) result
number_refused a b c ps n first result count went places number = rw count (writes_then a b c (flat_map place_bytes ps) (le_bytes 4 n) result (writes_went a b (flat_map place_bytes ps) first went places) number)

pub flush_after : (a b c : CountingWriterState) (ps : List Place) (number result : Result (Unit {0}) Fault) → false ≡ is_err number → Writes a b (table_bytes ps) number → Writes b c [] result → Writes a c (table_bytes ps) result
flush_after a b c ps number result went table flushed = rw append-nil at (writes_then a b c (table_bytes ps) [] result (writes_went a b (table_bytes ps) number went table) flushed)

-- Laws about the state of a composite writer, for callers that write bodies.
use Rattle.std.proofs.Common.{◌≡◌, ℕ, ◌+◌, ◌-◌, List, [], ◌∷◌, ◌++◌, length, refl, ap, ◌∙◌, arith, length-append}
use Rattle.std.proofs.lemmas.Grind.{flat_map-append}
use Rattle.std.proofs.lemmas.List.{append-nil}
use Rattle.ii_io.specs.declared.composite_file.place.BodyStart.{BodyStart}
use Rattle.ii_io.specs.declared.composite_file.place.Place.{Place}
use Rattle.ii_io.specs.CountingWriter.{CountingWriterState}
use Rattle.ii_io.proofs.WriteSteps.{Wrote-trans}
use Rattle.ii_io.specs.Composite.{Body, bodies_bytes, places_from}
use Rattle.ii_io.specs.CompositeWrite.{CompositeWriteState, AddsBody, HasBodies, written_bodies, starts_from, places_until, places_of}

starts_from-more : (start : ℕ) (bodies : List Body) (b : Body) → starts_from start (bodies ++ b ∷ []) ≡ starts_from start bodies ++ record { field = b.field; start = start + length (bodies_bytes bodies) } ∷ []
starts_from-more start [] b =
    let same : start ≡ start + 0 = omega arith in
    ap (λ (s : ℕ). record { field = b.field; start = s } ∷ []) same
starts_from-more start (c ∷ bs) b =
    let same : start + length c.bytes + length (bodies_bytes bs) ≡ start + length (c.bytes ++ bodies_bytes bs) = omega (arith, length-append c.bytes (bodies_bytes bs)) in
    let ih = starts_from-more (start + length c.bytes) bs b in
    ap (λ (ss : List BodyStart). record { field = c.field; start = start } ∷ ss) (rw same at ih)

-- one more body
pub HasBodies-more : (initial : CountingWriterState) (old new : CompositeWriteState) (bodies : List Body) (field : ℕ) (bytes : List ℕ) → HasBodies initial old bodies → AddsBody old new field bytes
    → HasBodies initial new (bodies ++ record { field = field; bytes = bytes } ∷ [])
HasBodies-more initial old new bodies field bytes has adds =
    let written = has.writer.written_bytes in
    let base = has.base in
    let start : written_bodies old ≡ 0 + length (bodies_bytes bodies) = omega arith in
    let more = starts_from-more 0 bodies (record { field = field; bytes = bytes }) in
    let content : bodies_bytes (bodies ++ record { field = field; bytes = bytes } ∷ []) ≡ bodies_bytes bodies ++ bytes = flat_map-append (λ (b : Body). b.bytes) bodies (record { field = field; bytes = bytes } ∷ []) ∙ ap (λ (xs : List ℕ). bodies_bytes bodies ++ xs) (append-nil bytes) in
    record {
      writer = rw content (Wrote-trans initial old.writer new.writer (bodies_bytes bodies) bytes has.writer adds.writer);
      base = adds.base ∙ has.base;
      starts = adds.starts ∙ rw (has.starts, start, more) refl;
    }

-- the places of consecutive bodies start where the bodies do
places_until-from : (start : ℕ) (bodies : List Body) → places_until (starts_from start bodies) (start + length (bodies_bytes bodies)) ≡ places_from start bodies
places_until-from start [] = refl
places_until-from start (b ∷ []) = rw append-nil refl
places_until-from start (b ∷ c ∷ bs) =
    let rest = bodies_bytes (c ∷ bs) in
    let end : start + length (b.bytes ++ rest) ≡ (start + length b.bytes) + length rest = omega (arith, length-append b.bytes rest) in
    let ih = places_until-from (start + length b.bytes) (c ∷ bs) in
    rw end (ap (λ (ps : List Place). record { field = b.field; start = start; end = start + length b.bytes } ∷ ps) ih)

pub places_of-bodies : (initial : CountingWriterState) (c : CompositeWriteState) (bodies : List Body) → HasBodies initial c bodies → places_of c ≡ places_from 0 bodies
places_of-bodies initial c bodies h =
    let written = h.writer.written_bytes in
    let base = h.base in
    let end : c.writer.written_bytes - c.base ≡ length (bodies_bytes bodies) = omega arith in
    let law = places_until-from 0 bodies in
    let zero_end : 0 + length (bodies_bytes bodies) ≡ length (bodies_bytes bodies) = omega arith in
    rw (h.starts, end) (rw zero_end at law)

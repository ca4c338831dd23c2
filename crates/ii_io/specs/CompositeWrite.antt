-- The state of a composite writer, and what it writes when it is closed.
use Rattle.std.specs.Prelude.{◌≡◌, ℕ, ◌+◌, ◌-◌, ◌^◌, ◌<◌, Bool, true, map, List, [], ◌∷◌, ◌++◌, length, ◌==◌, Some}
use Rattle.std.specs.List.{list_any}
use Rattle.ii_io.specs.declared.composite_file.place.Place.{Place}
use Rattle.ii_io.specs.declared.composite_file.place.BodyStart.{BodyStart}
use Rattle.ii_io.specs.CountingWriter.{CountingWriterState, Wrote}
use Rattle.ii_io.specs.Composite.{Body, are_distinct, bodies_bytes, written_composite, composite}

-- the writer, its bytes at the start, the start of each body counted from there, and whether a call failed
pub record CompositeWriteState : Type 0 where
  pub writer : CountingWriterState
  pub base : ℕ
  pub starts : List BodyStart
  pub closed : Bool

-- whether a field's body was started
abbrev pub has_start : ℕ → List BodyStart → Bool
has_start field starts = list_any (λ (s : BodyStart). s.field == field) starts

-- a start as a place, whose end is not known yet
abbrev pub open_place : BodyStart → Place
open_place s = record { field = s.field; start = s.start; end = s.start }

-- Starts that a table can hold: distinct fields, and fewer than 2^32.
pub record AreStarts (starts : List BodyStart) : Type 0 where
  pub few : length starts < 2 ^ 32
  pub distinct : are_distinct (map open_place starts) ≡ true

-- the number of bytes of bodies written
abbrev pub written_bodies : CompositeWriteState → ℕ
written_bodies c = c.writer.written_bytes - c.base

-- the start of a field's body that is written next
abbrev pub next_start : CompositeWriteState → ℕ → BodyStart
next_start c field = record { field = field; start = written_bodies c }

-- the places of bodies: each ends where the next starts, the last one at the given end
abbrev pub places_until : List BodyStart → ℕ → List Place
places_until [] end = []
places_until (s ∷ []) end = record { field = s.field; start = s.start; end = end } ∷ []
places_until (s ∷ t ∷ ss) end = record { field = s.field; start = s.start; end = t.start } ∷ places_until (t ∷ ss) end

-- the places of the bodies written
abbrev pub places_of : CompositeWriteState → List Place
places_of c = places_until c.starts (written_bodies c)

-- A body was appended.
pub record AddsBody (old new : CompositeWriteState) (field : ℕ) (bytes : List ℕ) : Type 0 where
  pub writer : Wrote old.writer new.writer bytes
  pub base : new.base ≡ old.base
  pub starts : new.starts ≡ old.starts ++ next_start old field ∷ []

-- the starts of consecutive bodies from an offset on
abbrev pub starts_from : ℕ → List Body → List BodyStart
starts_from start [] = []
starts_from start (b ∷ bs) = record { field = b.field; start = start } ∷ starts_from (start + length b.bytes) bs

-- Exactly these bodies were written since the writer was wrapped.
pub record HasBodies (initial : CountingWriterState) (c : CompositeWriteState) (bodies : List Body) : Type 0 where
  pub writer : Wrote initial c.writer (bodies_bytes bodies)
  pub base : c.base ≡ initial.written_bytes
  pub starts : c.starts ≡ starts_from 0 bodies

-- The file of these bodies was written, and is read back as them.
pub record WroteComposite (old new : CountingWriterState) (bodies : List Body) : Type 0 where
  pub wrote : Wrote old new (written_composite bodies)
  pub reads_back : composite (written_composite bodies) ≡ Some bodies

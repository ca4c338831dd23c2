-- The norms of fields that were copied.
use Rattle.std.specs.Prelude.{◌≡◌, ℕ, ◌<◌, ◌≤◌, Bool, true, List, Option, None, Some, if◌then◌else◌, length}
use Rattle.std.specs.List.{AllByRecursion}
use Rattle.ii_io.specs.Composite.{Body, body_of, fit_fields}
use Rattle.ii_io.specs.CompositeWrite.{AddsBody, CompositeWriteState, HasBodies}
use Rattle.ii_io.specs.CountingWriter.{CountingWriterState}
use Rattle.ii_io.specs.declared.composite_file.place.BodyStart.{BodyStart}
use Rattle.ii_warmup.specs.IndexParts.{KnownBodies}

-- Only fields below n were written.
pub record StartsBelow (n : ℕ) (c : CompositeWriteState) : Type 0 where
  pub below : AllByRecursion (λ (s : BodyStart). s.field < n) c.starts
  pub few : length c.starts ≤ n

-- A body was appended, if there is one.
abbrev pub AddsFound : Option (List ℕ) → ℕ → CompositeWriteState → CompositeWriteState → Type 0
AddsFound None field old new = new ≡ old
AddsFound (Some bytes) field old new = AddsBody old new field bytes

-- The norms of a field were appended, if they are wanted and there: those that a known file has.
pub record CopiesNorms (wanted : Bool) (known : Option (List ℕ)) (field : ℕ) (old new : CompositeWriteState) : Type 0 where
  pub found : Option (List ℕ)
  pub adds : AddsFound found field old new
  pub found_is : (bodies : List Body) → KnownBodies known bodies → found ≡ (if wanted then body_of field bodies else None)

-- Exactly the norms of the wanted fields before a place were written, as a known file has them.
pub record HasCopiedNorms (wanted : ℕ → Bool) (known : Option (List ℕ)) (initial : CountingWriterState) (place : ℕ) (now : CompositeWriteState) : Type 0 where
  pub done : List Body
  pub has : HasBodies initial now done
  pub fit : fit_fields done ≡ true
  pub later : (field : ℕ) → place ≤ field → body_of field done ≡ None
  pub norms : (bodies : List Body) → KnownBodies known bodies → (field : ℕ) → field < place → body_of field done ≡ (if wanted field then body_of field bodies else None)

-- The three composite files of an index while they are written: terms, postings and positions.
use Rattle.std.specs.Prelude.{List, [], ◌≡◌, ℕ, ◌+◌, ◌-◌, ◌^◌, ◌<◌, ◌≤◌, ◌⊎◌, false, length, Result}
use Rattle.ii_io.specs.declared.faults.Fault.{Fault}
use Rattle.ii_io.specs.Composite.{table_bytes}
use Rattle.ii_io.specs.CountingWriter.{CountingWriterState, Grows, IsFull, Wrote}
use Rattle.ii_io.specs.CompositeWrite.{CompositeWriteState, AddsBody, has_start, places_of}
use Rattle.ii_recorder.specs.Endings.{CountsOnce}
use Rattle.ii_recorder.specs.Terms.{FieldBodies}

pub record IndexBodiesState : Type 0 where
  pub terms : CompositeWriteState
  pub postings : CompositeWriteState
  pub positions : CompositeWriteState

-- a file that starts at the end of a writer's output
abbrev pub begun_file : CountingWriterState → CompositeWriteState
begun_file w = record { writer = w; base = w.written_bytes; starts = []; closed = false }

-- how many calls of the three writers failed
abbrev pub failed_calls : IndexBodiesState → ℕ
failed_calls b = b.terms.writer.failed_calls + b.postings.writer.failed_calls + b.positions.writer.failed_calls

-- The outcome for the three writers: an error of one counts once, nothing else does, and no count falls.
pub record CountsFailuresOf {A : Type 0} (old : IndexBodiesState) (terms postings positions : CountingWriterState) (result : Result A Fault) : Type 0 where
  pub once : CountsOnce (failed_calls old) (terms.failed_calls + postings.failed_calls + positions.failed_calls) result
  pub terms_kept : old.terms.writer.failed_calls ≤ terms.failed_calls
  pub postings_kept : old.postings.writer.failed_calls ≤ postings.failed_calls
  pub positions_kept : old.positions.writer.failed_calls ≤ positions.failed_calls

-- The same outcome for writers that stay in their files.
abbrev pub CountsFailures : {A : Type 0} → IndexBodiesState → IndexBodiesState → Result A Fault → Type 0
CountsFailures old new result = CountsFailuresOf old new.terms.writer new.postings.writer new.positions.writer result

-- Each output may have been appended to.
pub record AllGrow (old new : IndexBodiesState) : Type 0 where
  pub terms : Grows old.terms.writer new.terms.writer
  pub postings : Grows old.postings.writer new.postings.writer
  pub positions : Grows old.positions.writer new.positions.writer

-- A count of one of the writers would exceed its type, by its bytes or by a failed call.
abbrev pub OneIsFull : IndexBodiesState → FieldBodies → Type 0
OneIsFull b more = IsFull b.terms.writer (length more.terms) ⊎ IsFull b.postings.writer (length more.postings) ⊎ IsFull b.positions.writer (length more.positions)

-- the tables that are written when the three files are closed
abbrev pub tables_of : IndexBodiesState → FieldBodies
tables_of b = record { terms = table_bytes (places_of b.terms); postings = table_bytes (places_of b.postings); positions = table_bytes (places_of b.positions) }

-- None of the three files was closed by an error.
pub record AreUnclosed (b : IndexBodiesState) : Type 0 where
  pub terms : b.terms.closed ≡ false
  pub postings : b.postings.closed ≡ false
  pub positions : b.positions.closed ≡ false

-- The body of a field may start in each file.
pub record LacksField (field : ℕ) (b : IndexBodiesState) : Type 0 where
  pub terms : has_start field b.terms.starts ≡ false
  pub postings : has_start field b.postings.starts ≡ false
  pub positions : has_start field b.positions.starts ≡ false
  pub few_terms : length b.terms.starts < 2 ^ 32 - 1
  pub few_postings : length b.postings.starts < 2 ^ 32 - 1
  pub few_positions : length b.positions.starts < 2 ^ 32 - 1

-- The body of a field was started in each file, and has these bytes so far.
pub record AddsBodies (old new : IndexBodiesState) (field : ℕ) (bodies : FieldBodies) : Type 0 where
  pub terms : AddsBody old.terms new.terms field bodies.terms
  pub postings : AddsBody old.postings new.postings field bodies.postings
  pub positions : AddsBody old.positions new.positions field bodies.positions

-- Bytes were written after the last body.
pub record AddsBytes (old new : CompositeWriteState) (bytes : List ℕ) : Type 0 where
  pub writer : Wrote old.writer new.writer bytes
  pub base : new.base ≡ old.base
  pub starts : new.starts ≡ old.starts
  pub closed : new.closed ≡ old.closed

-- Bytes were written after the last body of each file.
pub record AddsMore (old new : IndexBodiesState) (more : FieldBodies) : Type 0 where
  pub terms : AddsBytes old.terms new.terms more.terms
  pub postings : AddsBytes old.postings new.postings more.postings
  pub positions : AddsBytes old.positions new.positions more.positions

-- The body of a field was started in each file.
pub record AreBegun (b : IndexBodiesState) : Type 0 where
  pub terms : 0 < length b.terms.starts
  pub postings : 0 < length b.postings.starts
  pub positions : 0 < length b.positions.starts

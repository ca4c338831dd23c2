-- The files of an index as they are written.
use Rattle.std.specs.Prelude.{◌≡◌, ℕ, ◌+◌, ◌≤◌, ◌⊎◌, List, length, Result, Some}
use Rattle.ii_io.specs.declared.faults.Fault.{Fault}
use Rattle.ii_io.specs.declared.faults.Fault.TheVariants.{Limit, OutOfMemory, Write}
use Rattle.ii_io.specs.declared.faults.LimitName.TheVariants as limit
use Rattle.ii_io.specs.Composite.{Body, composite, written_composite}
use Rattle.ii_io.specs.CountingWriter.{CountingWriterState, Grows, IsFull, Wrote}
use Rattle.ii_base.specs.Schema.{SchemaEntry}
use Rattle.ii_definitions.specs.Fields.{option_of}
use Rattle.ii_definitions.specs.Files.{HoldTokens}
use Rattle.ii_definitions.specs.Tokens.{IndexToken}
use Rattle.ii_definitions.specs.TrueBounds.{HaveTrueBodies, HaveTrueBounds}
use Rattle.ii_recorder.specs.Endings.{CountsOnce}
use Rattle.ii_recorder.specs.IndexSerializer.{IndexSerializerState}
use Rattle.ii_definitions.specs.Norms.{HoldNorms}
use Rattle.ii_postings_writer.specs.TermLimits.{HasLargeSum, IsLong}
use Rattle.ii_postings_writer.specs.TokenFiles.{FirstEnds, FirstTerm, file_bodies}
use Rattle.ii_indexing.specs.declared.index_writers.IndexWriters.{IndexWriters}
use Rattle.ii_recorder.specs.IndexBodies.{IndexBodiesState, begun_file}

-- The files of terms, postings and positions were written, and hold these tokens.
pub record WroteTermFiles {W : Type 0} (entries : List SchemaEntry) (old new : IndexWriters W) (ts : List IndexToken) : Type 0 where
  pub terms : List ℕ
  pub postings : List ℕ
  pub positions : List ℕ
  pub wrote_terms : Wrote old.terms new.terms terms
  pub wrote_postings : Wrote old.postings new.postings postings
  pub wrote_positions : Wrote old.positions new.positions positions
  pub hold : HoldTokens (option_of entries) terms postings positions ts

-- The writers of a serializer without output wrote the three files, which hold these tokens, with bounds by these norms.
pub record ClosedFiles (begun : IndexSerializerState) (new_terms new_postings new_positions : CountingWriterState) (norms : List Body) (ts : List IndexToken) : Type 0 where
  pub terms : List ℕ
  pub postings : List ℕ
  pub positions : List ℕ
  pub wrote_terms : Wrote begun.bodies.terms.writer new_terms terms
  pub wrote_postings : Wrote begun.bodies.postings.writer new_postings postings
  pub wrote_positions : Wrote begun.bodies.positions.writer new_positions positions
  pub hold : HoldTokens (option_of begun.entries) terms postings positions ts
  pub bounds : (term_bodies postings_bodies : List Body) → composite terms ≡ Some term_bodies → composite postings ≡ Some postings_bodies → HaveTrueBodies (option_of begun.entries) term_bodies postings_bodies norms

-- The file of norms was written, with `num_docs` norms for each field that has norms.
pub record WroteNormFile {W : Type 0} (entries : List SchemaEntry) (num_docs : ℕ) (old new : IndexWriters W) (ts : List IndexToken) : Type 0 where
  pub fieldnorms : List ℕ
  pub wrote : Wrote old.fieldnorms new.fieldnorms fieldnorms
  pub hold : HoldNorms entries num_docs fieldnorms ts

-- An index of these tokens was written, with bounds of blocks that are true by its file of norms.
pub record WroteIndex {W : Type 0} (entries : List SchemaEntry) (num_docs : ℕ) (old new : IndexWriters W) (ts : List IndexToken) : Type 0 where
  pub terms : WroteTermFiles entries old new ts
  pub norms : WroteNormFile entries num_docs old new ts
  pub bounds : HaveTrueBounds (option_of entries) terms.terms terms.postings norms.fieldnorms

-- Each of the four files keeps its bytes, and may have more after them.
pub record FilesGrow {W : Type 0} (old new : IndexWriters W) : Type 0 where
  pub terms : Grows old.terms new.terms
  pub postings : Grows old.postings new.postings
  pub positions : Grows old.positions new.positions
  pub fieldnorms : Grows old.fieldnorms new.fieldnorms

-- the number of failed calls of the four writers
abbrev pub index_failed_calls : {W : Type 0} → IndexWriters W → ℕ
index_failed_calls w = w.terms.failed_calls + w.postings.failed_calls + w.positions.failed_calls + w.fieldnorms.failed_calls

-- A writer's failure is counted once among the four writers, nothing else is, and no writer's count falls.
pub record CountsIndexFailures {W : Type 0} (old new : IndexWriters W) (result : Result (Unit {0}) Fault) : Type 0 where
  pub once : CountsOnce (index_failed_calls old) (index_failed_calls new) result
  pub terms : old.terms.failed_calls ≤ new.terms.failed_calls
  pub postings : old.postings.failed_calls ≤ new.postings.failed_calls
  pub positions : old.positions.failed_calls ≤ new.positions.failed_calls
  pub fieldnorms : old.fieldnorms.failed_calls ≤ new.fieldnorms.failed_calls

-- the files of terms, postings and positions, before anything is written
abbrev pub begun_files : {W : Type 0} → IndexWriters W → IndexBodiesState
begun_files w = record { terms = begun_file w.terms; postings = begun_file w.postings; positions = begun_file w.positions }

-- A file has no room for what is written for these tokens.
abbrev pub HaveNoRoom : List SchemaEntry → CountingWriterState → CountingWriterState → CountingWriterState → List IndexToken → Type 0
HaveNoRoom entries terms postings positions ts =
    IsFull terms (length (written_composite (file_bodies (λ b. b.terms) entries ts)))
    ⊎ IsFull postings (length (written_composite (file_bodies (λ b. b.postings) entries ts)))
    ⊎ IsFull positions (length (written_composite (file_bodies (λ b. b.positions) entries ts)))

-- Which limit the files of tokens exceed: that of the first term to exceed one, or no room for offsets.
abbrev pub PassLimits : List SchemaEntry → CountingWriterState → CountingWriterState → CountingWriterState → List IndexToken → Fault → Type 0
PassLimits entries terms postings positions ts fault =
    ((fault ≡ Limit limit.BlockFrequencySum) × FirstTerm (λ mode. HasLargeSum) entries ts)
    ⊎ ((fault ≡ Limit limit.TermBytes) × FirstTerm IsLong entries ts)
    ⊎ ((fault ≡ Limit limit.Offset) × (HaveNoRoom entries terms postings positions ts ⊎ FirstEnds entries ts))

-- Why an index can't be written: `OutOfMemory`, `Write`, a limit of its terms, or too long a file of norms.
abbrev pub IsIndexFault : {W : Type 0} → List SchemaEntry → ℕ → IndexWriters W → List IndexToken → Fault → Type 0
IsIndexFault entries num_docs writers ts fault =
    (fault ≡ OutOfMemory) ⊎ (fault ≡ Write) ⊎ PassLimits entries writers.terms writers.postings writers.positions ts fault
    ⊎ ((fault ≡ Limit limit.Offset) × (bytes : List ℕ) × HoldNorms entries num_docs bytes ts × IsFull writers.fieldnorms (length bytes))

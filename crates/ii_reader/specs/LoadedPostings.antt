-- A list that was loaded into memory.
use Rattle.std.specs.Prelude.{◌≡◌, ℕ, ◌+◌, ◌-◌, ◌^◌, ◌<◌, ◌≤◌, ◌⊎◌, List, [], ◌∷◌, take, drop, length, map, slice_index}
use Rattle.std.specs.List.{sum_by}
use Rattle.ii_io.specs.declared.faults.Fault.{Fault}
use Rattle.ii_io.specs.declared.faults.Fault.TheVariants.{OutOfMemory, Limit}
use Rattle.ii_io.specs.declared.faults.LimitName.TheVariants.{LoadedPositions}
use Rattle.ii_base.specs.declared.doc_id.TheConstants.{TERMINATED}
use Rattle.ii_base.specs.Entries.{Entry}
use Rattle.ii_docset.specs.Cursor.{IsSound}

-- the remaining documents, and how many documents were loaded
pub record LoadedPostingsState : Type 0 where
  pub rest : List Entry
  pub num_docs : ℕ

-- an entry whose term frequency is its number of positions
abbrev pub loaded_entry : Entry → Entry
loaded_entry e = record { doc = e.doc; term_freq = length e.positions; positions = e.positions }

-- what is loaded of a list
abbrev pub loaded : List Entry → List Entry
loaded es = map loaded_entry es

-- the number of positions of the documents of a list
abbrev pub num_positions : List Entry → ℕ
num_positions es = sum_by (λ (e : Entry). length e.positions) es

-- A list is a suffix of another one.
abbrev pub IsEndOf : List Entry → List Entry → Type 0
IsEndOf all es = es ≡ drop (length all - length es) all

-- Why a list wasn't loaded: an allocation failure, or more than u32::MAX positions.
abbrev pub IsLoadFault : ℕ → Fault → Type 0
IsLoadFault n fault = (fault ≡ OutOfMemory) ⊎ ((fault ≡ Limit LoadedPositions) × (2 ^ 32 ≤ n))

-- the entry of a document whose positions are between two offsets
abbrev pub entry_between : ℕ → ℕ → ℕ → List ℕ → Entry
entry_between doc start end positions = record { doc = doc; term_freq = end - start; positions = take (end - start) (drop start positions) }

-- the entries of documents whose positions follow each other, between these offsets
abbrev pub entries_held : List ℕ → List ℕ → List ℕ → List Entry
entries_held [] offsets positions = []
entries_held (d ∷ ds) offsets positions = entry_between d (slice_index offsets 0) (slice_index offsets 1) positions ∷ entries_held ds (drop 1 offsets) positions

-- Offsets into positions, before each document and after the last one, don't decrease.
pub record AreOffsets (docs offsets positions : List ℕ) : Type 0 where
  pub many : length offsets ≡ length docs + 1
  pub order : (i : ℕ) → i < length docs → slice_index offsets i ≤ slice_index offsets (i + 1)
  pub within : (i : ℕ) → i < length docs → slice_index offsets (i + 1) ≤ length positions

-- A list in memory: its documents, the offsets of their positions, the positions, and the current document.
pub record IsHeld (docs offsets positions : List ℕ) (cursor : ℕ) : Type 0 where
  pub offsets_are : AreOffsets docs offsets positions
  pub few : length docs ≤ TERMINATED
  pub inside : cursor ≤ length docs
  pub sound : IsSound (entries_held (drop cursor docs) (drop cursor offsets) positions)

-- The content of an indexing context: the recorder of each term, by the term's bytes.
use Rattle.std.specs.Prelude.{◌≡◌, ℕ, ◌≤◌, Bool, false, ◌==◌, if◌then◌else◌, List, [], bytes_eq, Option, None, Some, IsTrue, MatchOption, unwrap_or, ⊤}
use Rattle.std.specs.Map.{lookup}
use Rattle.std.specs.Option.{option_map_or}
use Rattle.ii_io.specs.declared.faults.Fault.{Fault}
use Rattle.ii_base.specs.declared.schema.index_record_option.IndexRecordOption.{IndexRecordOption}
use Rattle.ii_base.specs.Entries.{Entry, are_documents, docs_of}
use Rattle.ii_recorder.specs.Recorded.{RecorderState, begun, entries_of_recorder, position_fault, with_position}

-- each term's bytes with its recorder
abbrev pub TermIndex : Type 0
TermIndex = List (List ℕ × RecorderState)

-- the recorder of a term
abbrev pub recorder_of : TermIndex → List ℕ → Option RecorderState
recorder_of terms bytes = lookup (bytes_eq bytes) terms

-- a recorder without documents
abbrev pub new_recorder : IndexRecordOption → RecorderState
new_recorder option = record { option = option; closed = []; pending = None }

-- the recorder of a term, or a new one
abbrev pub recorder_or_new : IndexRecordOption → TermIndex → List ℕ → RecorderState
recorder_or_new option terms bytes = unwrap_or (recorder_of terms bytes) (new_recorder option)

-- whether a document is open in a recorder
abbrev pub is_open : ℕ → RecorderState → Bool
is_open doc r = option_map_or (λ (e : Entry). e.doc == doc) r.pending false

-- a recorder after a document was opened in it
abbrev pub opened_at : ℕ → RecorderState → RecorderState
opened_at doc r = if is_open doc r then r else record { option = r.option; closed = entries_of_recorder r; pending = Some (begun r.option doc) }

-- a recorder's entry of the document that was opened
abbrev pub entry_for_doc : ℕ → RecorderState → Entry
entry_for_doc doc r = unwrap_or (opened_at doc r).pending (begun r.option doc)

-- a recorder after one more position of that document
abbrev pub recorded_at : ℕ → ℕ → RecorderState → RecorderState
recorded_at doc position r = record (opened_at doc r) { pending = Some (with_position r.option position (entry_for_doc doc r)) }

-- why that position can't be recorded
abbrev pub record_fault : ℕ → ℕ → RecorderState → Option Fault
record_fault doc position r = position_fault r.option position (entry_for_doc doc r)

-- A recorder's documents ascend, and the last one is open and at most `doc`.
pub record EndsBy (doc : ℕ) (r : RecorderState) : Type 0 where
  pub ascending : IsTrue (are_documents (docs_of (entries_of_recorder r)))
  pub last : MatchOption r.pending ⊥ (λ (e : Entry). e.doc ≤ doc)

-- `EndsBy` holds for each recorder.
abbrev pub AllEndBy : ℕ → TermIndex → Type 0
AllEndBy doc terms = (bytes : List ℕ) → MatchOption (recorder_of terms bytes) ⊤ (EndsBy doc)

-- A position was recorded under a term, and all other terms are unchanged.
abbrev pub IsRecorded : IndexRecordOption → ℕ → ℕ → List ℕ → TermIndex → TermIndex → Type 0
IsRecorded option doc position term old new =
    (bytes : List ℕ) → recorder_of new bytes ≡ (if bytes_eq term bytes then Some (recorded_at doc position (recorder_or_new option old term)) else recorder_of old bytes)

-- Documents to be indexed, as their calls, and what is stored of their lines.
use Rattle.std.specs.Prelude.{◌≡◌, ◌⊎◌, ◌+◌, ◌<◌, ◌^◌, ℕ, Bool, ◌||◌, not, List, [], ◌∷◌, ◌++◌, length, map, nat_lt, if◌then◌else◌, Option, None, Some, IsSome, Result, Ok, Err}
use Rattle.ii_base.specs.Schema.{SchemaEntry}
use Rattle.ii_base.specs.declared.doc_id.TheConstants.{TERMINATED}
use Rattle.ii_definitions.specs.IndexCalls.{MayAllBeIndexed, call_of}
use Rattle.ii_definitions.specs.Tokens.{Call}
use Rattle.ii_definitions.specs.declared.index_call.IndexCall.{IndexCall}
use Rattle.ii_documents.specs.declared.floats.FloatNumbers.{FloatNumbers}
use Rattle.ii_documents.specs.Floats.{counted, skipped_in_line}
use Rattle.ii_documents.specs.declared.faults.LineFault.{LineFault}
use Rattle.ii_documents.specs.declared.faults.LineFault.TheVariants.{TooLong}
use Rattle.ii_documents.specs.JsonLines.{Refusal, TellsOfLine, line_calls_by, told_of_line, too_long, too_many_documents}
use Rattle.ii_documents.specs.Records.{HasLongRecord, IsRecordOf}
use Rattle.ii_schema_text.specs.Stored.{StoredState, is_any}
use Rattle.ii_schema_text.specs.declared.unknown_keys.UnknownKeys.{UnknownKeys}

pub record DocumentsState : Type 0 where
  pub schema : List SchemaEntry
  pub num_docs : ℕ
  pub calls : List Call
  pub stored : StoredState
  pub lines : Option (List (List ℕ))
  pub unknown_keys : UnknownKeys
  pub floats : FloatNumbers
  pub skipped_floats : ℕ

-- no records, if something is stored
abbrev pub no_records : StoredState → Option (List (List ℕ))
no_records s = if is_any s then Some [] else None

-- whether a line is short enough to be stored, if complete lines are
abbrev pub may_be_stored : StoredState → List ℕ → Bool
may_be_stored s line = not s.is_line || nat_lt (length line) (2 ^ 31)

-- the calls of one more document, if there is room for it and for its line
abbrev pub next_calls : DocumentsState → List ℕ → Result (List Call) Refusal
next_calls s line =
    if nat_lt s.num_docs TERMINATED then (if may_be_stored s.stored line then line_calls_by s.unknown_keys s.floats s.schema s.num_docs line else Err too_long)
    else Err too_many_documents

-- The record of a line, which is short enough, was added to those that are stored, if something is stored.
abbrev pub AddsRecord : StoredState → List SchemaEntry → List ℕ → Option (List (List ℕ)) → Option (List (List ℕ)) → Type 0
AddsRecord s es line None new = new ≡ None
AddsRecord s es line (Some rs) new = (r : List ℕ) × IsRecordOf s es line r × (length r < 2 ^ 31) × (new ≡ Some (rs ++ r ∷ []))

-- the documents and one more, with the calls of a line, of which floating-point numbers may be left out, and these records
abbrev pub with_document : DocumentsState → List Call → List ℕ → Option (List (List ℕ)) → DocumentsState
with_document s cs line lines = record s { num_docs = s.num_docs + 1; calls = s.calls ++ cs; lines = lines; skipped_floats = counted (s.skipped_floats + skipped_in_line s.floats s.schema line) }

-- The document of a line was added.
abbrev pub AddsLine : DocumentsState → DocumentsState → List ℕ → Type 0
AddsLine old new line = (cs : List Call) × (lines : Option (List (List ℕ))) × (next_calls old line ≡ Ok cs) × AddsRecord old.stored old.schema line old.lines lines × (new ≡ with_document old cs line lines)

-- The record of a line that has calls is too long to be stored.
abbrev pub IsTooLong : DocumentsState → List ℕ → Type 0
IsTooLong s line = ((cs : List Call) × (next_calls s line ≡ Ok cs)) × IsSome s.lines × HasLongRecord s.stored s.schema line

-- Why the document of a line isn't added: the line has no calls, or its record is too long, unless an allocation failed.
abbrev pub IsLineFault : LineFault → DocumentsState → List ℕ → Type 0
IsLineFault fault s line = TellsOfLine (told_of_line fault) (next_calls s line) ⊎ ((fault ≡ TooLong) × IsTooLong s line)

-- Calls come from index calls that may be made in order.
pub record WereCalls (entries : List SchemaEntry) (num_docs : ℕ) (calls : List Call) : Type 0 where
  pub made : List IndexCall
  pub may : MayAllBeIndexed entries num_docs made
  pub are : calls ≡ map (call_of entries) made

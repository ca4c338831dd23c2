-- What a recorder keeps of a term: documents with frequencies and positions, as far as its option has them.
use Rattle.std.specs.Prelude.{ℕ, ◌+◌, ◌-◌, ◌^◌, ◌&&◌, List, [], ◌∷◌, ◌++◌, length, nat_lt, slice_get, slice_index, ◌==◌, if◌then◌else◌, Option, None, Some, unwrap_or}
use Rattle.std.specs.Option.{option_to_list}
use Rattle.ii_io.specs.declared.faults.Fault.{Fault}
use Rattle.ii_io.specs.declared.faults.Fault.TheVariants.{DecreasingPosition, Limit}
use Rattle.ii_io.specs.declared.faults.LimitName.TheVariants as limit
use Rattle.ii_base.specs.declared.schema.index_record_option.IndexRecordOption.{IndexRecordOption}
use Rattle.ii_base.specs.Options.{has_freq, has_positions}
use Rattle.ii_base.specs.Entries.{Entry, docs_of}
use Rattle.ii_definitions.specs.Cut.{cut_entry}

-- The state of a recorder: its option, the closed documents, and the open one.
pub record RecorderState : Type 0 where
  pub option : IndexRecordOption
  pub closed : List Entry
  pub pending : Option Entry

-- all documents of a recorder, the open one last
abbrev pub entries_of_recorder : RecorderState → List Entry
entries_of_recorder r = r.closed ++ option_to_list r.pending

-- the greatest 32-bit number
abbrev pub u32_max : ℕ
u32_max = 2 ^ 32 - 1

-- the last document of entries
abbrev pub last_doc : List Entry → Option ℕ
last_doc es = slice_get (docs_of es) (length es - 1)

-- the document that was started last, or the greatest 32-bit number
abbrev pub current_doc : RecorderState → ℕ
current_doc r = unwrap_or (last_doc (entries_of_recorder r)) u32_max

-- a document in which nothing was recorded yet
abbrev pub begun : IndexRecordOption → ℕ → Entry
begun option doc = cut_entry option (record { doc = doc; term_freq = 0; positions = [] })

-- an entry with one more position
abbrev pub with_position : IndexRecordOption → ℕ → Entry → Entry
with_position option position e = cut_entry option (record { doc = e.doc; term_freq = e.term_freq + 1; positions = e.positions ++ position ∷ [] })

-- the last position, or 0 if there is none
abbrev pub last_position : List ℕ → ℕ
last_position positions = slice_index positions (length positions - 1)

-- the first reason why a position can't be recorded in an open document
abbrev pub position_fault : IndexRecordOption → ℕ → Entry → Option Fault
position_fault option position e =
    if has_positions option && (position == u32_max) then Some (Limit limit.Position)
    else if has_positions option && nat_lt position (last_position e.positions) then Some DecreasingPosition
    else if has_freq option && (e.term_freq == u32_max) then Some (Limit limit.Count)
    else None

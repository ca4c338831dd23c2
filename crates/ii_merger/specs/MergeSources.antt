-- A field of the segments that are merged: the lists of its keys, and what is damaged in them.
use Rattle.std.specs.Prelude.{◌≡◌, ℕ, ◌+◌, ◌&&◌, ◌==◌, not, Bool, if◌then◌else◌, List, [], ◌∷◌, ◌++◌, length, nat_lt, is_some, Option, None, Some, Result, Ok, Err}
use Rattle.std.specs.Result.{result_unwrap_or}
use Rattle.ii_io.specs.declared.faults.Fault.{Fault}
use Rattle.ii_io.specs.declared.faults.Fault.TheVariants.{Damaged}
use Rattle.ii_io.specs.declared.faults.Part.{Part}
use Rattle.ii_io.specs.declared.faults.Part.TheVariants as parts
use Rattle.ii_base.specs.declared.schema.index_record_option.IndexRecordOption.{IndexRecordOption}
use Rattle.ii_base.specs.Entries.{Entry}
use Rattle.ii_base.specs.Options.{has_freq, has_positions}
use Rattle.ii_alive.specs.Alive.{num_living}
use Rattle.ii_termstore.specs.declared.term_info.TermInfo.{TermInfo}
use Rattle.ii_termdict.specs.Dictionary.{info_under}
use Rattle.ii_reader.specs.InvertedIndexReader.{InvertedIndexReaderState, term_of_file}
use Rattle.ii_segments.specs.Segments.{is_living, living_entries}
use Rattle.ii_merger.specs.declared.field_source.FieldSource.{FieldSource}

-- a field of a segment: its reader, and which documents are alive
pub record FieldSourceState : Type 0 where
  pub reader : InvertedIndexReaderState
  pub alive : List Bool

-- the model of a borrowed field of a segment
abbrev pub source_of : FieldSource → FieldSourceState
source_of s = record { reader = s.reader.now; alive = s.alive.now }

-- the info of a key in a source
abbrev pub source_info : List ℕ → FieldSourceState → Option TermInfo
source_info key s = info_under key s.reader.terms

-- the list of a term in a source, as far as it is requested, or its first corrupt part; it is empty if there is no such term
abbrev pub list_under : IndexRecordOption → FieldSourceState → Option TermInfo → Result (List Entry) Part
list_under kind s None = Ok []
list_under kind s (Some info) = term_of_file s.reader kind info

-- the list of a term in a source, empty if it is corrupt
abbrev pub entries_under : IndexRecordOption → FieldSourceState → Option TermInfo → List Entry
entries_under kind s info = result_unwrap_or (list_under kind s info) []

-- the entries of a key in sources, those of the living documents, given the number of the first one
abbrev pub merged_from : IndexRecordOption → List ℕ → ℕ → List FieldSourceState → List Entry
merged_from kind key base [] = []
merged_from kind key base (s ∷ ss) = living_entries base s.alive (entries_under kind s (source_info key s)) ++ merged_from kind key (base + num_living s.alive) ss

-- the number of living documents of sources
abbrev pub living_in_sources : List FieldSourceState → ℕ
living_in_sources [] = 0
living_in_sources (s ∷ ss) = num_living s.alive + living_in_sources ss

-- the part of an entry that is damaged, if its term frequency is 0, or it has another number of positions
abbrev pub count_damage : IndexRecordOption → ℕ → ℕ → Option Part
count_damage kind term_freq num_positions =
    if has_freq kind && (term_freq == 0) then Some parts.Frequencies
    else if has_positions kind && not (num_positions == term_freq) then Some parts.Positions
    else None

-- the damaged part of an entry: its document isn't of the segment, or is alive with damaged counts
abbrev pub entry_damage : IndexRecordOption → List Bool → Entry → Option Part
entry_damage kind alive e =
    if not (nat_lt e.doc (length alive)) then Some parts.Documents
    else if is_living alive e.doc then count_damage kind e.term_freq (length e.positions)
    else None

-- the first damage, or the one after it
abbrev pub damage_or : Option Part → Option Part → Option Part
damage_or None later = later
damage_or (Some part) later = Some part

-- the damaged part of the first entry that has one
abbrev pub entries_damage : IndexRecordOption → List Bool → List Entry → Option Part
entries_damage kind alive [] = None
entries_damage kind alive (e ∷ es) = damage_or (entry_damage kind alive e) (entries_damage kind alive es)

-- the corrupt part of a list, or the damaged part of its entries
abbrev pub source_damage : IndexRecordOption → List Bool → Result (List Entry) Part → Option Part
source_damage kind alive (Ok es) = entries_damage kind alive es
source_damage kind alive (Err part) = Some part

-- the first damaged part of a key in sources
abbrev pub key_damage : IndexRecordOption → List ℕ → List FieldSourceState → Option Part
key_damage kind key [] = None
key_damage kind key (s ∷ ss) = damage_or (source_damage kind s.alive (list_under kind s (source_info key s))) (key_damage kind key ss)

-- A fault is that of a damaged part.
pub record IsDamageOf (damage : Option Part) (fault : Fault) : Type 0 where
  pub part : Part
  pub is : damage ≡ Some part
  pub reported : fault ≡ Damaged part

-- whether a source has a key
abbrev pub source_has_key : List ℕ → FieldSourceState → Bool
source_has_key key s = is_some (source_info key s)

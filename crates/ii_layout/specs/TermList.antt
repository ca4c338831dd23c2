-- The list of a term: its documents with term frequencies and positions, or the first corrupt part.
use Rattle.std.specs.Prelude.{◌≡◌, ℕ, ◌/◌, ◌^◌, ◌<◌, length, if◌then◌else◌, IsTrue, Bool, true, false, List, [], ◌∷◌, Option, None, Some, Result, Ok, ok_or}
use Rattle.std.specs.Option.{option_map}
use Rattle.ii_io.specs.declared.faults.Part.{Part}
use Rattle.ii_io.specs.declared.faults.Part.TheVariants.{Positions}
use Rattle.ii_io.specs.Parts.{◌>>=◌}
use Rattle.ii_base.specs.declared.schema.index_record_option.IndexRecordOption.{IndexRecordOption}
use Rattle.ii_base.specs.Options.{downgrade, has_freq, has_positions}
use Rattle.ii_base.specs.declared.schema.index_record_option.IndexRecordOption.TheVariants.{Basic}
use Rattle.std.specs.List.{sum, list_all, AllByRecursion}
use Rattle.ii_codes.specs.Sums.{fit_u32}
use Rattle.ii_base.specs.Entries.{Entry, are_documents}
use Rattle.ii_fieldnorm.specs.Readers.{Norms}
use Rattle.ii_layout.specs.Postings.{postings, entries_of}
use Rattle.ii_layout.specs.Positions.{positions_of, deltas_at, written_positions}
use Rattle.ii_layout.specs.Written.{written_postings, AreFreqs, freqs_read}

-- the deltas of a term if positions are requested, its frequencies are read, and bytes are given
abbrev pub deltas_if : Bool → Option (List ℕ) → Option (List ℕ) → Option (Option (List ℕ))
deltas_if false freqs bytes = Some None
deltas_if true None bytes = Some None
deltas_if true (Some freqs) None = Some None
deltas_if true (Some freqs) (Some bytes) = option_map Some (deltas_at freqs bytes)

-- the positions of each document if they are read
abbrev pub positions_if : Option (List ℕ) → Option (List ℕ) → List (List ℕ)
positions_if None deltas = []
positions_if (Some freqs) None = []
positions_if (Some freqs) (Some deltas) = positions_of freqs deltas

-- entries with their positions, as far as positions are given
abbrev pub located : List (List ℕ) → List Entry → List Entry
located [] es = es
located (ps ∷ pss) [] = []
located (ps ∷ pss) (e ∷ es) = record { doc = e.doc; term_freq = e.term_freq; positions = ps } ∷ located pss es

-- documents with frequencies and positions; where these aren't read, frequency 1 and no positions
abbrev pub list_of : List ℕ → Option (List ℕ) → Option (List ℕ) → List Entry
list_of docs freqs deltas = located (positions_if freqs deltas) (entries_of docs freqs)

-- the documents of a term, and its frequencies if they are read
abbrev pub docs_and_freqs : IndexRecordOption → IndexRecordOption → ℕ → List ℕ → Result (List ℕ × Option (List ℕ)) Part
docs_and_freqs recorded requested doc_freq bytes = do
  p ← postings recorded requested doc_freq bytes
  Ok (p.docs, p.freqs)

-- the list that the bytes of a term hold, by the recorded and the requested option
abbrev pub term_list : IndexRecordOption → IndexRecordOption → ℕ → List ℕ → Option (List ℕ) → Result (List Entry) Part
term_list recorded requested doc_freq bytes positions = do
  read ← docs_and_freqs recorded requested doc_freq bytes
  deltas ← ok_or (deltas_if (has_positions (downgrade recorded requested)) read.1 positions) Positions
  Ok (list_of read.0 read.1 deltas)

-- Deltas that may be written for these frequencies: as many as their sum; deltas and positions have 32 bits.
pub record AreDeltas (freqs deltas : List ℕ) : Type 0 where
  pub many : length deltas ≡ sum freqs
  pub small : AllByRecursion (λ v. v < 2 ^ 32) deltas
  pub few : length deltas / 128 < 2 ^ 64
  pub fit : list_all fit_u32 (positions_of freqs deltas) ≡ true

-- A written term reads back as its list for each requested option.
abbrev pub ReadsTermBack : Type 0
ReadsTermBack =
    (norms : Option Norms) (recorded requested : IndexRecordOption) (docs freqs deltas positions : List ℕ) → IsTrue (are_documents docs) → length docs < 2 ^ 32 → 0 < length docs
    → (IsTrue (has_freq recorded) → AreFreqs recorded docs freqs) → (IsTrue (has_positions recorded) → (positions ≡ written_positions deltas) × AreDeltas freqs deltas)
    → term_list recorded requested (length docs) (written_postings norms recorded docs freqs) (Some positions)
    ≡ Ok (list_of docs (freqs_read recorded requested freqs) (if has_positions (downgrade recorded requested) then Some deltas else None))

-- A term written without frequencies reads back as its documents, whatever its field records.
abbrev pub ReadsUncountedTermBack : Type 0
ReadsUncountedTermBack =
    (norms : Option Norms) (recorded requested : IndexRecordOption) (docs freqs : List ℕ) (positions : Option (List ℕ)) → IsTrue (are_documents docs) → length docs < 2 ^ 32
    → term_list recorded requested (length docs) (written_postings norms Basic docs freqs) positions ≡ Ok (list_of docs None None)

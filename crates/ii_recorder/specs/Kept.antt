-- What recorders hold in addition to their bytes.
use Rattle.std.specs.Prelude.{◌≡◌, ℕ, ◌^◌, ◌<◌, true, Bool, List, length, min, unwrap_or, IfSome}
use Rattle.std.specs.List.{AllByRecursion, sum}
use Rattle.ii_codes.specs.Sums.{DoNotFall}
use Rattle.ii_base.specs.Entries.{Entry}
use Rattle.ii_recorder.specs.Gathered.{counts_in, counts_state, positions_in, positions_state}
use Rattle.ii_recorder.specs.Recorded.{RecorderState, entries_of_recorder, last_doc, last_position, u32_max}
use Rattle.ii_recorder.specs.VintRows.{AreVints, numbers}

-- The bytes are deltas that sum to the last document, and one exists if a document is open.
pub record KeepsDocs (bytes : List ℕ) (last : ℕ) (is_open : Bool) : Type 0 where
  pub vints : AreVints bytes
  pub total : sum (numbers bytes) ≡ last
  pub fits : last < 2 ^ 32
  pub some : is_open ≡ true → 0 < length (numbers bytes)

-- The last document, or 0 if there is none.
abbrev pub IsLastDoc : ℕ → RecorderState → Type 0
IsLastDoc last s = unwrap_or (last_doc (entries_of_recorder s)) 0 ≡ last

-- The number of documents, or the greatest 32-bit number if there are more.
abbrev pub IsCount : ℕ → RecorderState → Type 0
IsCount count s = count ≡ min (length (entries_of_recorder s)) u32_max

-- The bytes are deltas and term frequencies, except the frequency of the open document.
pub record KeepsCounts (bytes : List ℕ) (last freq count : ℕ) : Type 0 where
  pub vints : AreVints bytes
  pub read : (counts_in (numbers bytes)).last ≡ last
  pub is_last : IsLastDoc last (counts_state bytes freq)
  pub is_count : IsCount count (counts_state bytes freq)

-- A document has as many positions as its term frequency says, and they don't decrease.
abbrev pub IsLocated : Entry → Type 0
IsLocated e = (length e.positions ≡ e.term_freq) × DoNotFall 0 e.positions × AllByRecursion (λ p. p < 2 ^ 32) e.positions

-- The bytes are deltas and positions; frequency and last position of the open document are apart.
pub record KeepsPositions (bytes : List ℕ) (last freq position count : ℕ) : Type 0 where
  pub vints : AreVints bytes
  pub read : (positions_in (numbers bytes)).last ≡ last
  pub is_last : IsLastDoc last (positions_state bytes)
  pub is_count : IsCount count (positions_state bytes)
  pub located : AllByRecursion IsLocated (entries_of_recorder (positions_state bytes))
  pub counted : AllByRecursion (λ (e : Entry). e.term_freq < 2 ^ 32) (entries_of_recorder (positions_state bytes))
  pub pending : IfSome (positions_state bytes).pending (λ e. (e.term_freq ≡ freq) × (last_position e.positions ≡ position))

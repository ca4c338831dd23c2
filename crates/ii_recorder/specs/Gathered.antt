-- What the numbers of a recorder say about its documents.
use Rattle.std.specs.Prelude.{ℕ, zero, suc, ◌+◌, ◌-◌, Bool, List, [], ◌∷◌, ◌++◌, length, map, take, if◌then◌else◌, Option, None, Some}
use Rattle.std.specs.Option.{option_map, option_to_list}
use Rattle.std.specs.List.{sum}
use Rattle.ii_base.specs.declared.schema.index_record_option.IndexRecordOption.TheVariants.{Basic, WithFreqs, WithFreqsAndPositions}
use Rattle.ii_codes.specs.Sums.{running_sums}
use Rattle.ii_base.specs.Entries.{Entry, counted, document}
use Rattle.ii_recorder.specs.Recorded.{RecorderState}
use Rattle.ii_recorder.specs.VintRows.{numbers}

-- documents that were read, the one that is being read, and the last one, or 0 if there is none
pub record Gathered : Type 0 where
  pub closed : List Entry
  pub pending : Option Entry
  pub last : ℕ

-- nothing was read after a document
abbrev pub none_after : ℕ → Gathered
none_after last = record { closed = []; pending = None; last = last }

-- the result of reading numbers one by one
abbrev pub gathered : (Gathered → ℕ → Gathered) → Gathered → List ℕ → Gathered
gathered step g [] = g
gathered step g (n ∷ ns) = gathered step (step g n) ns

-- all documents, including the one that is being read
abbrev pub all_of : Gathered → List Entry
all_of g = g.closed ++ option_to_list g.pending

-- one more number, by its parts: a document's delta, or the term frequency of the pending document
abbrev pub count_read : List Entry → Option Entry → ℕ → ℕ → Gathered
count_read closed None last n = record { closed = closed; pending = Some (counted (last + n) 0); last = last + n }
count_read closed (Some e) last n = record { closed = closed ++ counted e.doc n ∷ []; pending = None; last = last }

-- one more number of a recorder of frequencies: a document's delta, or its term frequency
abbrev pub with_count : Gathered → ℕ → Gathered
with_count g n = count_read g.closed g.pending g.last n

-- a document with more positions
abbrev pub more_positions : Entry → List ℕ → Entry
more_positions e positions = record { doc = e.doc; term_freq = e.term_freq + length positions; positions = e.positions ++ positions }

-- one more number, by its parts: a document's delta, or 0 at its end, or a position plus 1
abbrev pub position_read : List Entry → Option Entry → ℕ → ℕ → Gathered
position_read closed None last n = record { closed = closed; pending = Some (counted (last + n) 0); last = last + n }
position_read closed (Some e) last zero = record { closed = closed ++ e ∷ []; pending = None; last = last }
position_read closed (Some e) last (suc p) = record { closed = closed; pending = Some (more_positions e (p ∷ [])); last = last }

-- one more number of a recorder of positions: a document's delta, a position plus 1, or 0 at the end
abbrev pub with_number : Gathered → ℕ → Gathered
with_number g n = position_read g.closed g.pending g.last n

-- a document with another term frequency
abbrev pub recounted : ℕ → Entry → Entry
recounted count e = counted e.doc count

-- all documents, the pending one with a given term frequency
abbrev pub counted_all : ℕ → Gathered → List Entry
counted_all count g = g.closed ++ option_to_list (option_map (recounted count) g.pending)

-- a document with its positions
abbrev pub located_at : ℕ → List ℕ → Entry
located_at doc positions = record { doc = doc; term_freq = length positions; positions = positions }

-- documents by their distances from each other
abbrev pub docs_by_deltas : List ℕ → List Entry
docs_by_deltas ns = map document (running_sums 0 ns)

-- a recorder of documents, by these distances and whether the last document is open
abbrev pub docs_read : List ℕ → Bool → RecorderState
docs_read ns is_open = record {
  option = Basic;
  closed = map document (take (if is_open then length ns - 1 else length ns) (running_sums 0 ns));
  pending = if is_open then Some (document (sum ns)) else None;
}

-- a recorder of documents, by its bytes
abbrev pub docs_state : List ℕ → Bool → RecorderState
docs_state bytes is_open = docs_read (numbers bytes) is_open

-- what the numbers of a recorder of frequencies give
abbrev pub counts_in : List ℕ → Gathered
counts_in ns = gathered with_count (none_after 0) ns

-- a recorder of frequencies, by its bytes and the term frequency of the open document
abbrev pub counts_state : List ℕ → ℕ → RecorderState
counts_state bytes count =
    let g = counts_in (numbers bytes) in
    record { option = WithFreqs; closed = g.closed; pending = option_map (recounted count) g.pending }

-- what the numbers of a recorder of positions give
abbrev pub positions_in : List ℕ → Gathered
positions_in ns = gathered with_number (none_after 0) ns

-- a recorder of positions, by its bytes
abbrev pub positions_state : List ℕ → RecorderState
positions_state bytes =
    let g = positions_in (numbers bytes) in
    record { option = WithFreqsAndPositions; closed = g.closed; pending = g.pending }

-- the positions of the document that is being read
abbrev pub first_positions : List ℕ → List ℕ
first_positions [] = []
first_positions (zero ∷ ns) = []
first_positions (suc p ∷ ns) = p ∷ first_positions ns

-- the numbers after the positions of a document and their end
abbrev pub behind_positions : List ℕ → List ℕ
behind_positions [] = []
behind_positions (zero ∷ ns) = ns
behind_positions (suc p ∷ ns) = behind_positions ns

-- The numbers of tokens of the living documents of segments.
use Rattle.std.specs.Prelude.{◌≡◌, ℕ, ◌+◌, ◌<◌, ◌≤◌, Bool, IsSome, List, [], ◌∷◌, length, map, slice_index, sum, Option, None, Some, unwrap_or}
use Rattle.std.specs.List.{AllByRecursion, AllZip, flat_map, range_with_len}
use Rattle.ii_io.specs.Composite.{Body, body_of, composite}
use Rattle.ii_base.specs.Schema.{SchemaEntry}
use Rattle.ii_alive.specs.Alive.{num_living}
use Rattle.ii_counts.specs.Counts.{counts_at}
use Rattle.ii_counts.specs.CountsWriter.{count_at}
use Rattle.ii_segments.specs.HoldCounts.{HoldCounts}
use Rattle.ii_segments.specs.Segments.{Segment, living_docs}
use Rattle.ii_counts_merger.specs.declared.counts_source.CountsSource.{CountsSource}

-- the counts of a segment: the bodies of their file, and which documents are alive
pub record CountsSourceState : Type 0 where
  pub counts : List Body
  pub alive : List Bool

-- the model of borrowed counts
abbrev pub opened_counts : CountsSource → CountsSourceState
opened_counts s = record { counts = s.counts.now; alive = s.alive.now }

-- the counts in a body, if there is one and it has a count for each document
abbrev pub counts_in_body : ℕ → Option (List ℕ) → Option (List ℕ)
counts_in_body num_docs None = None
counts_in_body num_docs (Some bytes) = counts_at num_docs bytes

-- how many tokens each document of a segment has in a field, if its file of counts says so
abbrev pub counts_of_source : ℕ → CountsSourceState → Option (List ℕ)
counts_of_source field s = counts_in_body (length s.alive) (body_of field s.counts)

-- the counts of the living documents of a segment in a field
abbrev pub living_row : ℕ → CountsSourceState → List ℕ
living_row field s = map (slice_index (unwrap_or (counts_of_source field s) [])) (living_docs s.alive)

-- the counts of the living documents of segments in a field
abbrev pub merged_row : ℕ → List CountsSourceState → List ℕ
merged_row field ss = flat_map (living_row field) ss

-- the number of living documents of segments
abbrev pub num_merged_docs : List CountsSourceState → ℕ
num_merged_docs [] = 0
num_merged_docs (s ∷ ss) = num_living s.alive + num_merged_docs ss

-- the counts of the living documents of segments, in each of n fields
abbrev pub merged_rows : ℕ → List CountsSourceState → List (List ℕ)
merged_rows n ss = map (λ (field : ℕ). merged_row field ss) (range_with_len 0 n)

-- how many tokens the living documents of segments have, in each of n fields
abbrev pub merged_totals : ℕ → List CountsSourceState → List ℕ
merged_totals n ss = map (λ (field : ℕ). sum (merged_row field ss)) (range_with_len 0 n)

-- A segment has a count for each document in a field.
abbrev pub HasCounts : ℕ → CountsSourceState → Type 0
HasCounts field s = IsSome (counts_of_source field s)

-- Each segment has counts in each of n fields.
abbrev pub HaveCounts : ℕ → List CountsSourceState → Type 0
HaveCounts n ss = (field : ℕ) → field < n → AllByRecursion (HasCounts field) ss

-- The first n counts of a row were set in a field, from the first document on, and no other count was changed.
pub record SetsRow (old new : List (List ℕ)) (field n : ℕ) (row : List ℕ) : Type 0 where
  pub fields : length new ≡ length old
  pub here : (doc : ℕ) → doc < n → count_at new field doc ≡ slice_index row doc
  pub others : (f doc : ℕ) → (f ≡ field → doc < n → ⊥) → count_at new f doc ≡ count_at old f doc

-- Of n fields, those below a place have the counts of the living documents of segments; the others have none.
pub record HasRows (n place : ℕ) (ss : List CountsSourceState) (rows : List (List ℕ)) : Type 0 where
  pub fields : length rows ≡ n
  pub below : (field doc : ℕ) → field < place → count_at rows field doc ≡ slice_index (merged_row field ss) doc
  pub after : (field doc : ℕ) → place ≤ field → count_at rows field doc ≡ 0

-- Open counts are those of the tokens of a segment.
pub record CountsSourceHolds (entries : List SchemaEntry) (opened : CountsSourceState) (s : Segment) : Type 0 where
  pub bytes : List ℕ
  pub opened_is : composite bytes ≡ Some opened.counts
  pub counts : HoldCounts entries (length s.alive) bytes s.tokens
  pub alive : opened.alive ≡ s.alive

-- Open counts are those of segments, one by one.
abbrev pub CountsSourcesHold : List SchemaEntry → List CountsSourceState → List Segment → Type 0
CountsSourcesHold entries opened ss = AllZip (CountsSourceHolds entries) opened ss

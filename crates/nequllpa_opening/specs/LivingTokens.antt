-- How many tokens the living documents of a segment have in a field.
use Rattle.std.specs.Prelude.{ℕ, Bool, List, Option, None, Some, if◌then◌else◌, length, map, nat_lt, slice_get, slice_index, sum}
use Rattle.std.specs.Option.{option_map}
use Rattle.ii_io.specs.Composite.{Body}
use Rattle.ii_alive.specs.Alive.{num_living}
use Rattle.ii_counts_merger.specs.CountsSources.{counts_of_source}
use Rattle.ii_reader.specs.InvertedIndexReader.{InvertedIndexReaderState}
use Rattle.ii_reader.specs.OpenIndex.{OpenIndexState}
use Rattle.ii_segments.specs.Segments.{living_docs}

-- whether a document of a segment was deleted
abbrev pub has_deletes : List Bool → Bool
has_deletes alive = nat_lt (num_living alive) (length alive)

-- how many tokens the living documents of a segment have in a field, by its counts if it has some
abbrev pub counted_tokens : ℕ → Option (List Body) → List Bool → Option ℕ
counted_tokens field None alive = None
counted_tokens field (Some bodies) alive = option_map (λ (counts : List ℕ). sum (map (slice_index counts) (living_docs alive))) (counts_of_source field (record { counts = bodies; alive = alive }))

-- how many they have: all tokens if no document was deleted, else by the counts
abbrev pub living_tokens : ℕ → OpenIndexState → Option (List Body) → List Bool → Option ℕ
living_tokens field index counts alive = if has_deletes alive then counted_tokens field counts alive else option_map (λ (r : InvertedIndexReaderState). r.num_tokens) (slice_get index.readers field)

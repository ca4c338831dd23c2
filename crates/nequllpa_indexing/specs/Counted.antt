-- The tokens of documents that were indexed, counted.
use Rattle.std.specs.Prelude.{◌≡◌, ◌⊎◌, ℕ, ◌<◌, List, length, min}
use Rattle.ii_io.specs.declared.faults.Fault.{Fault}
use Rattle.ii_io.specs.declared.faults.Fault.TheVariants.{Limit, OutOfMemory}
use Rattle.ii_io.specs.declared.faults.LimitName.TheVariants as limit
use Rattle.ii_base.specs.Schema.{SchemaEntry}
use Rattle.ii_counts.specs.CountsWriter.{IsRowsFault, count_at}
use Rattle.ii_definitions.specs.Postings.{doc_count}
use Rattle.ii_definitions.specs.Tokens.{IndexToken}
use Rattle.ii_indexing.specs.RamFiles.{IsRamFault}
use Rattle.ii_segments.specs.HoldCounts.{HasManyTokens, field_counts}

-- Rows have the number of tokens of each document in each field, at most 2^32 - 1.
pub record HasCounts (entries : List SchemaEntry) (ts : List IndexToken) (rows : List (List ℕ)) : Type 0 where
  pub fields : length rows ≡ length entries
  pub each : (field doc : ℕ) → field < length entries → count_at rows field doc ≡ min (doc_count doc field ts) 4294967295

-- Why the files of a segment can't be built: an allocation failed, a limit of an index is exceeded, a document has too many tokens, or the file of counts would be too long.
abbrev pub IsSegmentFault : List SchemaEntry → ℕ → List IndexToken → Fault → Type 0
IsSegmentFault entries num_docs ts fault =
    (fault ≡ OutOfMemory) ⊎ IsRamFault entries num_docs ts fault ⊎ ((fault ≡ Limit limit.Tokens) × HasManyTokens entries ts) ⊎ IsRowsFault (field_counts entries num_docs ts) fault

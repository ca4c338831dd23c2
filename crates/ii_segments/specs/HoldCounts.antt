-- The content of the file of counts.
use Rattle.std.specs.Prelude.{ℕ, ◌<◌, ◌≤◌, List, length, map}
use Rattle.std.specs.List.{range_with_len}
use Rattle.ii_base.specs.Schema.{SchemaEntry}
use Rattle.ii_counts.specs.CountsWriter.{HoldRows}
use Rattle.ii_definitions.specs.Postings.{doc_count}
use Rattle.ii_definitions.specs.Tokens.{IndexToken}
use Rattle.ii_segments.specs.Segments.{doc_counts}

-- for each field of a schema, the number of tokens of each document
abbrev pub field_counts : List SchemaEntry → ℕ → List IndexToken → List (List ℕ)
field_counts entries num_docs ts = map (λ (field : ℕ). doc_counts num_docs field ts) (range_with_len 0 (length entries))

-- A file holds the number of tokens of each document in each field of a schema.
abbrev pub HoldCounts : List SchemaEntry → ℕ → List ℕ → List IndexToken → Type 0
HoldCounts entries num_docs bytes ts = HoldRows (field_counts entries num_docs ts) bytes

-- A document has 2^32 - 1 tokens in a field, or more.
pub record HasManyTokens (entries : List SchemaEntry) (ts : List IndexToken) : Type 0 where
  pub field : ℕ
  pub doc : ℕ
  pub known : field < length entries
  pub many : 4294967295 ≤ doc_count doc field ts

-- The format of a file of counts: for each field a body with the number of tokens of each document.
use Rattle.std.specs.Prelude.{ℕ, List, length, ◌==◌, Option, Some}
use Rattle.ii_io.specs.Steps.{◌>>=◌, needs}
use Rattle.ii_layout.specs.Positions.{position_deltas, written_positions}

-- the counts in a body, if it has one for each document
abbrev pub counts_at : ℕ → List ℕ → Option (List ℕ)
counts_at num_docs bytes = do
  counts ← position_deltas bytes
  _ ← needs (length counts == num_docs)
  Some counts

-- the body written for counts
abbrev pub written_counts : List ℕ → List ℕ
written_counts counts = written_positions counts

-- The model of a reader: the count of each document, and how many blocks were decoded.
pub record CountReaderState : Type 0 where
  pub counts : List ℕ
  pub decodes : ℕ

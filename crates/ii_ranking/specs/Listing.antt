-- The documents that match a query, each with its score.
use Rattle.std.specs.Prelude.{ℕ, List, Option}
use Rattle.ii_scorer.specs.TopDocs.{scored_docs}

-- the documents below a number that have a score, each with it, in ascending order
unfoldable pub scored_below : ℕ → (ℕ → Option ℕ) → List (ℕ × ℕ)
scored_below num_docs score_of = scored_docs num_docs score_of

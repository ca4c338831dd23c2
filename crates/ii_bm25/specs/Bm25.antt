-- BM25 in integers, with k1 = 1.2 and b = 0.75.
use Rattle.std.specs.Prelude.{ℕ, ◌+◌, ◌-◌, ◌*◌, ◌/◌, ◌^◌, ◌<◌, ◌≤◌, List, get_or, max, min}
use Rattle.ii_bm25.specs.Log.{log2_fixed}
use Rattle.ii_bm25.specs.Lengths.{lengths_from}

-- the idf of a term by base 2, in 2^-26: log2 of (2N + 2) / (2n + 1), and 0 where that is below 1; at most 2^62 documents count
abbrev pub idf : ℕ → ℕ → ℕ
idf doc_freq doc_count = log2_fixed (2 * min (2 ^ 62) doc_count + 2) - log2_fixed (2 * min (2 ^ 62) doc_freq + 1)

-- the weight of a sum of these, in 2^-22: it times ln 2 and k1 + 1
abbrev pub weight : ℕ → ℕ
weight idfs = min (2 ^ 32 - 1) (max 1 (idfs * 1637374460 / 2 ^ 34))

-- what share of its greatest score so many occurrences reach, in 2^-28
abbrev pub share : ℕ → ℕ → ℕ
share count length = 2 ^ 28 * (count * 2 ^ 20) / (count * 2 ^ 20 + length)

-- the score, in 2^-38
abbrev pub score : ℕ → ℕ → ℕ → ℕ
score weight count length = weight * share count length / 2 ^ 12

-- a weight, and the length part of each norm
pub record Bm25State : Type 0 where
  pub weight : ℕ
  pub lengths : List ℕ

-- the weight of terms whose idf have a sum, in a field of so many tokens
abbrev pub bm25_weight : ℕ → ℕ → ℕ → Bm25State
bm25_weight idfs num_docs num_tokens = record { weight = weight idfs; lengths = lengths_from 256 num_tokens num_docs }

-- the score of a document with a norm's id, in which the term occurs so many times
abbrev pub bm25_score : Bm25State → ℕ → ℕ → ℕ
bm25_score w id count = score w.weight count (get_or w.lengths id 1)

-- the share that it reaches
abbrev pub bm25_share : Bm25State → ℕ → ℕ → ℕ
bm25_share w id count = share count (get_or w.lengths id 1)

-- A count is the least, of those of 32 bits, that scores at least this; the greatest one may score less.
pub record IsLeastCount (score_of : ℕ → ℕ) (least count : ℕ) : Type 0 where
  pub fits : count < 2 ^ 32
  pub below : (fewer : ℕ) → fewer < count → score_of fewer < least
  pub reached : count < 2 ^ 32 - 1 → least ≤ score_of count

-- the same for a document with a norm's id
abbrev pub IsLeastTermFreq : Bm25State → ℕ → ℕ → ℕ → Type 0
IsLeastTermFreq w id least count = IsLeastCount (bm25_score w id) least count

-- The law: a score rises with the count, and falls with the length.
pub record RisesAndFalls : Type 0 where
  pub rises : (weight count more length : ℕ) → 0 < length → count ≤ more → score weight count length ≤ score weight more length
  pub falls : (weight count length longer : ℕ) → 0 < length → length ≤ longer → score weight count longer ≤ score weight count length
  pub bounds : (weight count more length longer : ℕ) → 0 < length → count ≤ more → length ≤ longer → score weight count longer ≤ score weight more length

-- Counts of a walk over lists.
use Rattle.std.specs.Prelude.{◌≡◌, ℕ, ◌+◌, ◌<◌, ◌==◌, if◌then◌else◌, List, length, min, Some, slice_get}
use Rattle.std.specs.List.{sum_by}
use Rattle.ii_base.specs.Entries.{Entry}
use Rattle.ii_damage.specs.declared.walking.TermWalk.{TermWalk}
use Rattle.ii_damage.specs.Damages.{num_occurrences, tokens_of_doc, max_u32, max_u64, max_u128}

-- the number of positions of all entries
abbrev pub total_positions : List Entry → ℕ
total_positions es = sum_by (λ (e : Entry). length e.positions) es

-- `counts` holds the number of tokens of each document in these entries, at most `u32::MAX`.
pub record HasCounts (num_docs : ℕ) (es : List Entry) (counts : List ℕ) : Type 0 where
  pub many : length counts ≡ num_docs
  pub each : (doc : ℕ) → doc < num_docs → slice_get counts doc ≡ Some (min (tokens_of_doc doc es) max_u32)

-- A walk in an index of `num_docs` documents has counted these entries.
pub record HasWalked (num_docs : ℕ) (es : List Entry) (w : TermWalk) : Type 0 where
  pub tokens : w.tokens ≡ min (num_occurrences es) max_u128
  pub postings : w.postings ≡ min (length es) max_u64
  pub positions : w.positions ≡ min (total_positions es) max_u64
  pub counts : HasCounts num_docs es w.counts.items

-- the count of document `d` after `term_freq` more tokens of document `doc`
abbrev pub count_with : ℕ → ℕ → ℕ → ℕ → ℕ
count_with doc term_freq d count = if doc == d then min (count + term_freq) max_u32 else count

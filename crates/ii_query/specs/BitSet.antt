-- A set of documents: words of 64 bits, a bit for each document.
use Rattle.std.specs.Prelude.{◌≡◌, ℕ, ◌-◌, ◌*◌, ◌/◌, ◌%◌, ◌<◌, ◌≤◌, Bool, true, false, List, get_or, length, min, nat_eq}
use Rattle.std.specs.Int.{bit_at}
use Rattle.ii_base.specs.Entries.{Entry}
use Rattle.ii_base.specs.declared.doc_id.TheConstants.{TERMINATED}
use Rattle.ii_query.specs.Combined.{all_from, picked}

-- whether a set has a document
abbrev pub is_in : List ℕ → ℕ → Bool
is_in words doc = nat_eq (bit_at (get_or words (doc / 64) 0) (doc % 64)) 1

-- the number of documents that have a bit; `TERMINATED` is no document
abbrev pub bits_end : List ℕ → ℕ
bits_end words = min (64 * length words) TERMINATED

-- the documents of a set from one on, below an end, in ascending order
abbrev pub docs_between : List ℕ → ℕ → ℕ → List Entry
docs_between words next end = picked (is_in words) (all_from next (end - next))

-- all documents of a set
abbrev pub docs_of_set : List ℕ → List Entry
docs_of_set words = docs_between words 0 (bits_end words)

-- The first document from one on that passes a test, or none below an end.
pub record IsFirstFrom (holds : ℕ → Bool) (from end found : ℕ) : Type 0 where
  pub low : from ≤ found
  pub none : (d : ℕ) → from ≤ d → d < found → d < end → holds d ≡ false
  pub here : found < end → holds found ≡ true

-- A cursor is at a document of a set, or at the end of its bits.
pub record StandsIn (words : List ℕ) (next end : ℕ) : Type 0 where
  pub bits : end ≤ bits_end words
  pub here : next < end → is_in words next ≡ true

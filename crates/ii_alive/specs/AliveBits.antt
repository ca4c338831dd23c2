-- The state of alive bits: words of 64 documents, and how many documents before each block of eight words are alive.
use Rattle.std.specs.Prelude.{◌≡◌, ℕ, ◌+◌, ◌*◌, ◌/◌, ◌<◌, Bool, true, not, List, length, take, drop, slice_index}
use Rattle.std.specs.List.{flat_map, list_all}
use Rattle.ii_alive.specs.Alive.{num_living}
use Rattle.ii_alive.specs.AliveBytes.{bits_of, num_words}

-- the bits of words
abbrev pub word_bits : List ℕ → List Bool
word_bits words = flat_map (bits_of 64) words

-- Words have a bit for each document, and the bits after the last document are 0.
pub record AreAliveWords (num_docs : ℕ) (words : List ℕ) : Type 0 where
  pub size : length words ≡ num_words num_docs
  pub unused : list_all not (drop num_docs (word_bits words)) ≡ true

-- There is a count for each block of eight words: how many documents before it are alive.
pub record AreBlockCounts (words counts : List ℕ) : Type 0 where
  pub size : length counts ≡ (length words + 7) / 8
  pub before : (block : ℕ) → block < length counts → slice_index counts block ≡ num_living (word_bits (take (8 * block) words))

-- The words, the counts and the number of living documents are of the same flags.
pub record AreAliveBits (num_docs : ℕ) (words counts : List ℕ) (living : ℕ) : Type 0 where
  pub flags : AreAliveWords num_docs words
  pub blocks : AreBlockCounts words counts
  pub total : living ≡ num_living (word_bits words)

-- The parts of a dictionary in the bytes of its file.
use Rattle.std.specs.Prelude.{◌≡◌, ℕ, ◌+◌, ◌*◌, ◌<◌, ◌≤◌, IsOk, IsSome, IsSomeAnd, List, MatchOption, Ok, Option, Some, drop, length}
use Rattle.ii_termstore.specs.TermStore.{bits_len, meta_at, meta_size, term_store}
use Rattle.ii_termstore.specs.declared.term_info_store.block_meta.TermInfoBlockMeta.{TermInfoBlockMeta as Meta}
use Rattle.ii_termdict.specs.Dictionary.{AreOpened, dictionary, key_of, opened_entries}

-- the bytes from the ends of the keys on
abbrev pub ends_in : List ℕ → List ℕ
ends_in bytes = drop 8 bytes

-- the bytes from the keys on, after the ends of n
abbrev pub from_keys : ℕ → List ℕ → List ℕ
from_keys n bytes = drop (8 + 8 * n) bytes

-- Bytes hold a dictionary of n terms.
pub record HasParts (n : ℕ) (bytes : List ℕ) : Type 0 where
  pub room : 8 + 8 * n ≤ length bytes
  pub opened : AreOpened n (ends_in bytes) (from_keys n bytes)
  pub entries : dictionary bytes ≡ Ok (opened_entries n (ends_in bytes) (from_keys n bytes))

-- If a file's bytes are known and hold a dictionary, this is one of n terms.
abbrev pub CountsTerms : Option (List ℕ) → ℕ → Type 0
CountsTerms known n = (bytes : List ℕ) → known ≡ Some bytes → IsOk (dictionary bytes) → HasParts n bytes

-- The ordinal of a key among n, or none if it isn't one of them.
abbrev pub IsOrdinalOf : ℕ → List ℕ → List ℕ → Option ℕ → Type 0
IsOrdinalOf n key bytes found =
    MatchOption found ((i : ℕ) → i < n → key_of (ends_in bytes) (from_keys n bytes) i ≡ key → ⊥) (λ ord. (ord < n) × (key_of (ends_in bytes) (from_keys n bytes) ord ≡ key))

-- A store of n terms begins at a place of bytes.
abbrev pub HasStoreAt : ℕ → ℕ → List ℕ → Type 0
HasStoreAt start n bytes = IsSomeAnd (term_store (drop start bytes)) (λ infos. length infos ≡ n)

-- A meta begins at a place of bytes.
pub record HasMeta (start : ℕ) (bytes : List ℕ) : Type 0 where
  pub room : start + meta_size ≤ length bytes
  pub meta : IsSome (meta_at (drop start bytes))

-- The bits of a block of a number of terms lie within bytes, if it has any.
abbrev pub HasBits : ℕ → Meta → ℕ → List ℕ → Type 0
HasBits start meta terms bytes = 0 < bits_len meta terms → start + meta.offset + bits_len meta terms ≤ length bytes

-- The bytes of flags of documents: a bit for each document, least first, in eight bytes for each 64 documents.
use Rattle.std.specs.Prelude.{◌≡◌, ℕ, zero, suc, ◌+◌, ◌*◌, ◌/◌, ◌%◌, Bool, not, ◌&&◌, if◌then◌else◌, List, [], ◌∷◌, length, map, take, drop, nat_eq, Option, Some, None}
use Rattle.std.specs.List.{flat_map, list_all, range_with_len}
use Rattle.ii_io.specs.Numbers.{AreBytes}

-- the k lowest bits of a number, least first
unfoldable pub bits_of : ℕ → ℕ → List Bool
bits_of zero n = []
bits_of (suc k) n = nat_eq (n % 2) 1 ∷ bits_of k (n / 2)

-- the bits of bytes
abbrev pub byte_bits : List ℕ → List Bool
byte_bits bytes = flat_map (bits_of 8) bytes

-- the number with these bits, least first
abbrev pub number_of_bits : List Bool → ℕ
number_of_bits [] = 0
number_of_bits (b ∷ bs) = (if b then 1 else 0) + 2 * number_of_bits bs

-- the number of groups of 64 documents
unfoldable pub num_words : ℕ → ℕ
num_words num_docs = (num_docs + 63) / 64

-- the flags of documents that bytes hold, if there are eight bytes for each group and the bits after the last document are 0
unfoldable pub alive_of : ℕ → List ℕ → Option (List Bool)
alive_of num_docs bytes =
    if nat_eq (length bytes) (8 * num_words num_docs) && list_all not (drop num_docs (byte_bits bytes)) then Some (take num_docs (byte_bits bytes)) else None

-- the byte of eight documents
abbrev pub alive_byte : List Bool → ℕ → ℕ
alive_byte alive i = number_of_bits (take 8 (drop (8 * i) alive))

-- the bytes of flags
unfoldable pub alive_bytes : List Bool → List ℕ
alive_bytes alive = map (alive_byte alive) (range_with_len 0 (8 * num_words (length alive)))

-- Written flags are read back.
abbrev pub ReadsWrittenFlags : Type 0
ReadsWrittenFlags = (alive : List Bool) → alive_of (length alive) (alive_bytes alive) ≡ Some alive

-- No other bytes hold these flags.
abbrev pub HasOneEncoding : Type 0
HasOneEncoding = (num_docs : ℕ) (bytes : List ℕ) (alive : List Bool) → AreBytes bytes → alive_of num_docs bytes ≡ Some alive → bytes ≡ alive_bytes alive

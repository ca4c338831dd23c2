-- Little-endian numbers. A list of bytes is a list of numbers below 256.
use Rattle.std.specs.Prelude.{◌≡◌, ℕ, zero, suc, ◌+◌, ◌*◌, ◌/◌, ◌%◌, ◌^◌, ◌<◌, List, [], ◌∷◌, ◌++◌, length, take, drop, nat_le, Option, Some}
use Rattle.std.specs.List.{AllByRecursion}
use Rattle.ii_io.specs.Steps.{◌>>=◌, needs}

-- Each number is a byte.
abbrev pub AreBytes : List ℕ → Type 0
AreBytes bytes = AllByRecursion (λ b. b < 256) bytes

-- the number that the bytes encode, where byte i counts 256 ^ i
abbrev pub little_endian : List ℕ → ℕ
little_endian [] = 0
little_endian (b ∷ bs) = b + 256 * little_endian bs

-- the k bytes of a number below 256 ^ k
unfoldable pub le_bytes : ℕ → ℕ → List ℕ
le_bytes zero n = []
le_bytes (suc k) n = n % 256 ∷ le_bytes k (n / 256)

-- the number in the first k bytes, and the bytes after it, if there are k
unfoldable pub number_at : ℕ → List ℕ → Option (ℕ × List ℕ)
number_at k bytes = do
  _ ← needs (nat_le k (length bytes))
  Some (little_endian (take k bytes), drop k bytes)

-- A written number is read back, whatever follows it.
abbrev pub ReadsWhatIsWritten : Type 0
ReadsWhatIsWritten = (k n : ℕ) (rest : List ℕ) → n < 256 ^ k → number_at k (le_bytes k n ++ rest) ≡ Some (n, rest)

-- No other bytes of the same length encode the same number.
abbrev pub HasOneSpelling : Type 0
HasOneSpelling = (xs ys : List ℕ) → AreBytes xs → AreBytes ys → length xs ≡ length ys → little_endian xs ≡ little_endian ys → xs ≡ ys

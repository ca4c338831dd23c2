-- Vints: groups of seven bits, the lowest group first. Only the last byte has 128 added.
use Rattle.std.specs.Prelude.{◌≡◌, ℕ, zero, suc, ◌+◌, ◌-◌, ◌*◌, ◌/◌, ◌%◌, ◌^◌, ◌<◌, ◌≤◌, List, [], ◌∷◌, ◌++◌, length, slice_index, nat_lt, if◌then◌else◌, Option, Some, None}
use Rattle.ii_io.specs.Steps.{◌>>=◌, needs}

-- the sum of the groups, where group i counts 128 ^ i
abbrev pub groups_sum : List ℕ → ℕ
groups_sum [] = 0
groups_sum (b ∷ bs) = b % 128 + 128 * groups_sum bs

-- The bytes encode a number below the limit, in at most `most` bytes; redundant zero groups are valid.
pub record Spells (most limit : ℕ) (bytes : List ℕ) (v : ℕ) : Type 0 where
  pub some : 0 < length bytes
  pub few : length bytes ≤ most
  pub low : (i : ℕ) → i + 1 < length bytes → slice_index bytes i < 128
  pub last : 128 ≤ slice_index bytes (length bytes - 1)
  pub value : v ≡ groups_sum bytes
  pub fits : v < limit

-- the sum of the groups up to the first byte of at least 128, among `most` bytes, and the bytes after it
abbrev pub groups_at : ℕ → List ℕ → Option (ℕ × List ℕ)
groups_at zero bytes = None
groups_at (suc most) [] = None
groups_at (suc most) (b ∷ bs) =
    if nat_lt b 128 then (groups_at most bs >>= λ later. Some (b % 128 + 128 * later.0, later.1)) else Some (b % 128, bs)

-- the number below the limit that is encoded at the start, and the bytes after it
abbrev pub vint_at : ℕ → ℕ → List ℕ → Option (ℕ × List ℕ)
vint_at most limit bytes = do
  found ← groups_at most bytes
  _ ← needs (nat_lt found.0 limit)
  Some found

-- the 32-bit number that is encoded at the start, and the bytes after it
unfoldable pub u32_at : List ℕ → Option (ℕ × List ℕ)
u32_at bytes = vint_at 5 (2 ^ 32) bytes

-- the 64-bit number that is encoded at the start, and the bytes after it
unfoldable pub u64_at : List ℕ → Option (ℕ × List ℕ)
u64_at bytes = vint_at 10 (2 ^ 64) bytes

-- n consecutive 32-bit numbers, and the bytes after them
abbrev pub u32s_at : ℕ → List ℕ → Option (List ℕ × List ℕ)
u32s_at zero bytes = Some ([], bytes)
u32s_at (suc n) bytes = do
  first ← u32_at bytes
  others ← u32s_at n first.1
  Some (first.0 ∷ others.0, others.1)

-- the fewest groups of a number below 128 ^ (more + 1)
abbrev pub fewest_groups : ℕ → ℕ → List ℕ
fewest_groups zero n = (n + 128) ∷ []
fewest_groups (suc more) n = if nat_lt n 128 then (n + 128) ∷ [] else n % 128 ∷ fewest_groups more (n / 128)

-- the shortest encoding of a 32-bit number
unfoldable pub vint_u32 : ℕ → List ℕ
vint_u32 n = fewest_groups 4 n

-- the shortest encoding of a 64-bit number
unfoldable pub vint_u64 : ℕ → List ℕ
vint_u64 n = fewest_groups 9 n

-- Exactly the encodings are read from the start, whatever follows them.
abbrev pub ReadsWhatIsSpelled : ℕ → ℕ → Type 0
ReadsWhatIsSpelled most limit =
    ((bytes rest : List ℕ) (v : ℕ) → Spells most limit bytes v → vint_at most limit (bytes ++ rest) ≡ Some (v, rest))
    × ((all rest : List ℕ) (v : ℕ) → vint_at most limit all ≡ Some (v, rest) → (bytes : List ℕ) × Spells most limit bytes v × (all ≡ bytes ++ rest))

-- The fewest groups encode a number below 128 ^ (more + 1), and no encoding is shorter.
abbrev pub SpellsInFewest : ℕ → Type 0
SpellsInFewest more =
    (n limit : ℕ) → n < 128 ^ suc more → n < limit
    → Spells (suc more) limit (fewest_groups more n) n
    × ((bytes : List ℕ) → Spells (suc more) limit bytes n → length (fewest_groups more n) ≤ length bytes)

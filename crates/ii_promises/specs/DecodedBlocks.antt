-- Which blocks a move decodes, in numbers.
use Rattle.std.specs.Prelude.{◌≡◌, ◌⊎◌, ℕ, ◌<◌, ◌≤◌, List, [], ◌∷◌, ◌++◌, length, slice_index, take}

-- No block is there twice: a list of blocks ascends strictly.
abbrev pub IsEachOnce : List ℕ → Type 0
IsEachOnce blocks = (i j : ℕ) → i < j → j < length blocks → slice_index blocks i < slice_index blocks j

-- All blocks are at most the current one, and none is there twice.
pub record HasDecodedOnce (block : ℕ) (blocks : List ℕ) : Type 0 where
  pub once : IsEachOnce blocks
  pub within : (i : ℕ) → i < length blocks → slice_index blocks i ≤ block

-- No block was added to the decoded ones, or the new block, which is a later one.
abbrev pub DecodesNewBlock : ℕ → ℕ → List ℕ → List ℕ → Type 0
DecodesNewBlock old new blocks blocks' = (blocks' ≡ blocks) ⊎ ((old < new) × (blocks' ≡ blocks ++ new ∷ []))

-- Decoded blocks were added, each after the old block and at most the new one, and after the one added before it.
pub record DecodesNoneTwice (old new : ℕ) (blocks blocks' : List ℕ) : Type 0 where
  pub kept : take (length blocks) blocks' ≡ blocks
  pub between : (i : ℕ) → length blocks ≤ i → i < length blocks' → (old < slice_index blocks' i) × (slice_index blocks' i ≤ new)
  pub once : (i j : ℕ) → length blocks ≤ i → i < j → j < length blocks' → slice_index blocks' i < slice_index blocks' j

-- Which blocks of a list a cursor decoded.
use Rattle.std.specs.Prelude.{◌≡◌, ◌⊎◌, ℕ, zero, suc, ◌+◌, ◌<◌, ◌≤◌, ⊤, List, [], ◌∷◌, ◌++◌, length, Option, None, Some}
use Rattle.std.specs.List.{AllByRecursion}
use Rattle.ii_layout.specs.Postings.{Postings}
use Rattle.ii_layout.specs.Written.{block_of}

-- what a decode of n values of a block adds to the decoded blocks: its number, if there are any values
abbrev pub logged : ℕ → ℕ → List ℕ
logged block zero = []
logged block (suc n) = block ∷ []

-- Blocks from `first` to `last`, in ascending order, each at most once.
abbrev pub AscendWithin : ℕ → ℕ → List ℕ → Type 0
AscendWithin first last [] = ⊤
AscendWithin first last (b ∷ bs) = (first ≤ b) × (b ≤ last) × AscendWithin (b + 1) last bs

-- The block was added to the decoded blocks of term frequencies if these are read, else these blocks are unchanged.
abbrev pub LogsFreqs : Option (List ℕ) → ℕ → List ℕ → List ℕ → Type 0
LogsFreqs None block old new = new ≡ old
LogsFreqs (Some freqs) block old new = new ≡ old ++ logged block (length (block_of freqs block))

-- The block was added to the decoded blocks of documents and, if they are read, of term frequencies.
pub record LogsBlock (p : Postings) (block : ℕ) (docs docs' freqs freqs' : List ℕ) : Type 0 where
  pub docs_are : docs' ≡ docs ++ logged block (length (block_of p.docs block))
  pub freqs_are : LogsFreqs p.freqs block freqs freqs'

-- The blocks that were decoded up to a block are as many as were counted, and each is there once.
pub record AreDecoded (block decodes : ℕ) (blocks : List ℕ) : Type 0 where
  pub many : length blocks ≡ decodes
  pub ascend : AscendWithin 0 block blocks

-- No block was decoded, or the new one, which is a later one.
abbrev pub DecodesLast : ℕ → ℕ → List ℕ → List ℕ → Type 0
DecodesLast old new blocks blocks' = (blocks' ≡ blocks) ⊎ ((old < new) × (blocks' ≡ blocks ++ new ∷ []))

-- Only blocks after the old one, up to the new one, were decoded, each at most once.
pub record DecodesLater (old new : ℕ) (blocks blocks' : List ℕ) : Type 0 where
  pub added : List ℕ
  pub are : blocks' ≡ blocks ++ added
  pub ascend : AscendWithin (old + 1) new added

-- The same, and only blocks that are allowed.
pub record DecodesAllowed (IsAllowed : ℕ → Type 0) (old new : ℕ) (blocks blocks' : List ℕ) : Type 0 where
  pub later : DecodesLater old new blocks blocks'
  pub only : AllByRecursion IsAllowed later.added

-- Lists of documents in blocks, and which of their blocks a scorer decodes.
use Rattle.std.specs.Prelude.{◌≡◌, ℕ, ◌<◌, ◌≤◌, ◌/◌, List, length, nat_lt}
use Rattle.std.specs.List.{AllZip, count_by}
use Rattle.ii_check.specs.DecodedBlocks.{DecodesAllowed}

-- a list of documents in blocks: its documents, the block that its cursor is at, and which blocks of documents and of term frequencies were decoded
pub record BlockList : Type 0 where
  pub docs : List ℕ
  pub block : ℕ
  pub doc_blocks : List ℕ
  pub freq_blocks : List ℕ

-- how many of these documents are below a document
abbrev pub num_below : ℕ → List ℕ → ℕ
num_below doc docs = count_by (λ (d : ℕ). nat_lt d doc) docs

-- A block of a list has the first document from one on that is allowed.
pub record HasFirstFrom (IsAllowed : ℕ → Type 0) (docs : List ℕ) (block : ℕ) : Type 0 where
  pub doc : ℕ
  pub allowed : IsAllowed doc
  pub inside : num_below doc docs < length docs
  pub here : block ≡ num_below doc docs / 128

-- The cursor of a list went on, and decoded only later blocks, each at most once, that have the first document from an allowed one on.
pub record ReadsWhere (IsAllowed : ℕ → Type 0) (old new : BlockList) : Type 0 where
  pub docs : new.docs ≡ old.docs
  pub forward : old.block ≤ new.block
  pub doc_blocks : DecodesAllowed (HasFirstFrom IsAllowed old.docs) old.block new.block old.doc_blocks new.doc_blocks
  pub freq_blocks : DecodesAllowed (HasFirstFrom IsAllowed old.docs) old.block new.block old.freq_blocks new.freq_blocks

-- Each of some lists was read so.
abbrev pub ReadsOnly : (ℕ → Type 0) → List BlockList → List BlockList → Type 0
ReadsOnly IsAllowed olds news = AllZip (ReadsWhere IsAllowed) olds news

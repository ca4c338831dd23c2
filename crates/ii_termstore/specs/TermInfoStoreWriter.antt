-- A writer of a store: the terms that it was given, and whether a call failed.
use Rattle.std.specs.Prelude.{Bool, ℕ, ◌≡◌, ◌*◌, ◌/◌, ◌<◌, List, [], ◌∷◌, length, drop}
use Rattle.ii_codes.specs.Bits.{bits_bytes}
use Rattle.ii_termstore.specs.declared.term_info.TermInfo.{TermInfo}
use Rattle.ii_termstore.specs.declared.term_info_store.TheConstants.{BLOCK_LEN}
use Rattle.ii_termstore.specs.TermInfos.{IsInRange}
use Rattle.ii_termstore.specs.TermStore.{meta_bytes}
use Rattle.ii_termstore.specs.Written.{HaveLengths, info_in, meta_for, block_row, metas_bytes, blocks_bytes}
use Rattle.ii_termstore.specs.ReadBack.{AreJoined}

pub record TermInfoStoreWriterState : Type 0 where
  pub infos : List TermInfo
  pub closed : Bool

-- The full blocks of the terms are kept as metas and bits, and the terms after them as they are.
pub record AreGathered (infos : List TermInfo) (num_terms : ℕ) (block_metas block_bits : List ℕ) (open_block : List TermInfo) : Type 0 where
  pub count : num_terms ≡ length infos
  pub metas : block_metas ≡ metas_bytes infos (length infos / BLOCK_LEN)
  pub bits : block_bits ≡ blocks_bytes infos (length infos / BLOCK_LEN)
  pub rest : open_block ≡ drop (BLOCK_LEN * (length infos / BLOCK_LEN)) infos

-- The terms can be written and read back.
pub record AreSound (infos : List TermInfo) : Type 0 where
  pub lengths : HaveLengths infos
  pub ranges : (k : ℕ) → k < length infos → IsInRange (info_in infos k)
  pub joined : AreJoined infos

-- the meta and the bits of a block that begins at an offset, or nothing if it has no terms
abbrev pub open_meta : ℕ → List TermInfo → List ℕ
open_meta offset [] = []
open_meta offset (first ∷ others) = meta_bytes (meta_for offset first others)

-- the bits of the block that isn't full
abbrev pub open_bits : List TermInfo → List ℕ
open_bits [] = []
open_bits (first ∷ others) = bits_bytes (block_row (meta_for 0 first others) others)

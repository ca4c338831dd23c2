-- The law of stores: what is written reads back.
use Rattle.std.specs.Prelude.{◌≡◌, ℕ, suc, ◌/◌, ◌^◌, ◌<◌, List, ◌++◌, length, Some}
use Rattle.ii_termstore.specs.declared.term_info.TermInfo.{TermInfo}
use Rattle.ii_termstore.specs.declared.term_info_store.TheConstants.{BLOCK_LEN}
use Rattle.ii_termstore.specs.TermInfos.{IsInRange}
use Rattle.ii_termstore.specs.TermStore.{term_store}
use Rattle.ii_termstore.specs.Written.{info_in, HaveLengths, blocks_bytes, written_store}

-- Each range begins where that of the previous term ends.
pub record AreJoined (infos : List TermInfo) : Type 0 where
  pub postings : (k : ℕ) → suc k < length infos → (info_in infos (suc k)).postings_range.start ≡ (info_in infos k).postings_range.end
  pub positions : (k : ℕ) → suc k < length infos → (info_in infos (suc k)).positions_range.start ≡ (info_in infos k).positions_range.end

-- The ranges of the last term, if there is one, end here.
pub record EndAt (infos : List TermInfo) (postings_end positions_end : ℕ) : Type 0 where
  pub postings : (k : ℕ) → suc k ≡ length infos → (info_in infos k).postings_range.end ≡ postings_end
  pub positions : (k : ℕ) → suc k ≡ length infos → (info_in infos k).positions_range.end ≡ positions_end

-- Terms that can be stored: numbers and lengths fit their types, and block bits take less than 2 ^ 64 bytes.
pub record AreStorable (infos : List TermInfo) : Type 0 where
  pub few : length infos < 2 ^ 64
  pub bits : length (blocks_bytes infos (length infos / BLOCK_LEN)) < 2 ^ 64
  pub lengths : HaveLengths infos
  pub ranges : (k : ℕ) → k < length infos → IsInRange (info_in infos k)

-- The store of joined terms reads back as these terms, whatever follows.
abbrev pub ReadsStoreBack : Type 0
ReadsStoreBack = (infos : List TermInfo) (rest : List ℕ) → AreStorable infos → AreJoined infos → term_store (written_store infos ++ rest) ≡ Some infos

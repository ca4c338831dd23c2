-- The bytes that are written for term infos.
use Rattle.std.specs.Prelude.{ℕ, ◌-◌, ◌*◌, ◌/◌, ◌^◌, ◌≤◌, ◌<◌, ◌≡◌, max, List, [], ◌∷◌, ◌++◌, map, take, drop, length, slice_index_or}
use Rattle.std.specs.List.{flat_map, sum_by, range_with_len}
use Rattle.ii_io.specs.Numbers.{le_bytes}
use Rattle.ii_codes.specs.Packed.{num_bits}
use Rattle.ii_codes.specs.Bits.{low_bits, whole_bytes, bits_left, bits_bytes}
use Rattle.ii_termstore.specs.declared.term_info.TermInfo.{TermInfo}
use Rattle.ii_termstore.specs.declared.term_info_store.TheConstants.{BLOCK_LEN}
use Rattle.ii_termstore.specs.declared.term_info_store.block_meta.TermInfoBlockMeta.{TermInfoBlockMeta as Meta}
use Rattle.ii_termstore.specs.TermInfos.{term_info_from, HasLengths}
use Rattle.ii_termstore.specs.TermStore.{meta_size, meta_bytes, block_count}

-- A buffer begins with the complete bytes of a row of bits, and the packer holds the remaining bits.
pub record IsPacking (buffer : List ℕ) (count : ℕ) (pending row : List ℕ) : Type 0 where
  pub bytes : take count buffer ≡ whole_bytes row
  pub size : count ≡ length row / 8
  pub left : pending ≡ bits_left row

-- the first term of a block
abbrev pub first_of : List TermInfo → TermInfo
first_of [] = term_info_from 0 0 0 0 0
first_of (i ∷ is) = i

-- the last term of a block, by its first and the others
abbrev pub last_of : TermInfo → List TermInfo → TermInfo
last_of first [] = first
last_of first (i ∷ is) = last_of i is

-- the largest number of a list
abbrev pub largest : List ℕ → ℕ
largest [] = 0
largest (n ∷ ns) = max n (largest ns)

-- where the postings of a term begin, relative to the first of its block
abbrev pub postings_after : TermInfo → TermInfo → ℕ
postings_after first i = i.postings_range.start - first.postings_range.start

-- where the positions of a term begin, relative to the first of its block
abbrev pub positions_after : TermInfo → TermInfo → ℕ
positions_after first i = i.positions_range.start - first.positions_range.start

-- where the postings of a block end, relative to the first term's
abbrev pub postings_end : TermInfo → List TermInfo → ℕ
postings_end first others = (last_of first others).postings_range.end - first.postings_range.start

-- where the positions of a block end, relative to the first term's
abbrev pub positions_end : TermInfo → List TermInfo → ℕ
positions_end first others = (last_of first others).positions_range.end - first.positions_range.start

-- the meta of a block: each width is that of the largest number
unfoldable pub meta_for : ℕ → TermInfo → List TermInfo → Meta
meta_for offset first others = record {
  offset = offset;
  ref_term_info = first;
  doc_freq_nbits = num_bits (largest (map (λ (i : TermInfo). i.doc_freq) others));
  postings_offset_nbits = num_bits (max (largest (map (postings_after first) others)) (postings_end first others));
  positions_offset_nbits = num_bits (max (largest (map (positions_after first) others)) (positions_end first others));
}

-- the bits of a term after the first
abbrev pub term_row : Meta → TermInfo → List ℕ
term_row m i =
    low_bits m.postings_offset_nbits (postings_after m.ref_term_info i) ++ low_bits m.positions_offset_nbits (positions_after m.ref_term_info i)
    ++ low_bits m.doc_freq_nbits i.doc_freq

-- the bits of a block, as numbers of the chosen widths
abbrev pub block_row : Meta → List TermInfo → List ℕ
block_row m others =
    flat_map (term_row m) others ++ low_bits m.postings_offset_nbits (postings_end m.ref_term_info others)
    ++ low_bits m.positions_offset_nbits (positions_end m.ref_term_info others)

-- the terms of block b
abbrev pub terms_of_block : List TermInfo → ℕ → List TermInfo
terms_of_block infos b = take BLOCK_LEN (drop (BLOCK_LEN * b) infos)

-- the bits of block b
unfoldable pub bits_of_block : List TermInfo → ℕ → List ℕ
bits_of_block infos b = bits_bytes (block_row (meta_for 0 (first_of (terms_of_block infos b)) (drop 1 (terms_of_block infos b))) (drop 1 (terms_of_block infos b)))

-- where the bits of block b begin
abbrev pub offset_of : List TermInfo → ℕ → ℕ
offset_of infos b = sum_by (λ a. length (bits_of_block infos a)) (range_with_len 0 b)

-- the meta of block b
unfoldable pub meta_at_block : List TermInfo → ℕ → Meta
meta_at_block infos b = meta_for (offset_of infos b) (first_of (terms_of_block infos b)) (drop 1 (terms_of_block infos b))

-- the metas of the first n blocks
abbrev pub metas_bytes : List TermInfo → ℕ → List ℕ
metas_bytes infos n = flat_map (λ b. meta_bytes (meta_at_block infos b)) (range_with_len 0 n)

-- the bits of the first n blocks
abbrev pub blocks_bytes : List TermInfo → ℕ → List ℕ
blocks_bytes infos n = flat_map (bits_of_block infos) (range_with_len 0 n)

-- the store of these terms
unfoldable pub written_store : List TermInfo → List ℕ
written_store infos =
    le_bytes 8 (meta_size * block_count (length infos)) ++ le_bytes 8 (length infos) ++ metas_bytes infos (block_count (length infos))
    ++ blocks_bytes infos (block_count (length infos))

-- The widths hold the numbers of their types, and the numbers of a term.
pub record AreNarrow (m : Meta) : Type 0 where
  pub doc_freq : m.doc_freq_nbits ≤ 64
  pub postings : m.postings_offset_nbits ≤ 64
  pub positions : m.positions_offset_nbits ≤ 64

pub record FitsWidths (m : Meta) (i : TermInfo) : Type 0 where
  pub doc_freq : i.doc_freq < 2 ^ m.doc_freq_nbits
  pub postings : postings_after m.ref_term_info i < 2 ^ m.postings_offset_nbits
  pub positions : positions_after m.ref_term_info i < 2 ^ m.positions_offset_nbits

-- The widths hold the ends of a block.
pub record EndsFit (m : Meta) (others : List TermInfo) : Type 0 where
  pub postings : postings_end m.ref_term_info others < 2 ^ m.postings_offset_nbits
  pub positions : positions_end m.ref_term_info others < 2 ^ m.positions_offset_nbits

-- term k
abbrev pub info_in : List TermInfo → ℕ → TermInfo
info_in infos k = slice_index_or infos k (term_info_from 0 0 0 0 0)

-- Each term has lengths that fit.
abbrev pub HaveLengths : List TermInfo → Type 0
HaveLengths infos = (k : ℕ) → k < length infos → HasLengths (info_in infos k)

-- The widths hold the numbers of a block.
pub record FitsBlock (m : Meta) (others : List TermInfo) : Type 0 where
  pub doc_freq : largest (map (λ (i : TermInfo). i.doc_freq) others) < 2 ^ m.doc_freq_nbits
  pub postings : max (largest (map (postings_after m.ref_term_info) others)) (postings_end m.ref_term_info others) < 2 ^ m.postings_offset_nbits
  pub positions : max (largest (map (positions_after m.ref_term_info) others)) (positions_end m.ref_term_info others) < 2 ^ m.positions_offset_nbits

-- Term infos in blocks of BLOCK_LEN: the first one complete, the others in as few bits as the block needs.
use Rattle.std.specs.Prelude.{ℕ, ◌+◌, ◌-◌, ◌*◌, ◌/◌, ◌%◌, Bool, false, ◌&&◌, ◌||◌, List, ◌∷◌, [], ◌++◌, map, drop, length, min, nat_le, nat_lt, ◌==◌, if◌then◌else◌, Option, None, Some, unwrap_or}
use Rattle.std.specs.List.{list_all, range_with_len}
use Rattle.std.specs.Option.{option_map}
use Rattle.ii_io.specs.Steps.{◌>>=◌, needs}
use Rattle.ii_io.specs.Numbers.{number_at, le_bytes}
use Rattle.ii_codes.specs.Packed.{bits_in}
use Rattle.ii_termstore.specs.declared.term_info.TermInfo.{TermInfo}
use Rattle.ii_termstore.specs.declared.term_info_store.TheConstants.{BLOCK_LEN}
use Rattle.ii_termstore.specs.declared.term_info_store.block_meta.TermInfoBlockMeta.{TermInfoBlockMeta as Meta}
use Rattle.ii_termstore.specs.declared.term_info_store.block_meta.TheConstants.{MAX_DOC_FREQ_NBITS, MAX_OFFSET_NBITS}
use Rattle.ii_termstore.specs.TermInfos.{term_info_from, info_bytes, info_at, is_sound}

-- the number of bytes of a block's meta
abbrev pub meta_size : ℕ
meta_size = 39

-- the bytes of a meta: where the bits begin, the first term, and the bit widths of the other terms' numbers
unfoldable pub meta_bytes : Meta → List ℕ
meta_bytes m = le_bytes 8 m.offset ++ info_bytes m.ref_term_info ++ m.doc_freq_nbits ∷ m.postings_offset_nbits ∷ m.positions_offset_nbits ∷ []

-- the meta at the front of bytes, and the bytes after it
unfoldable pub meta_at : List ℕ → Option (Meta × List ℕ)
meta_at bytes = do
  offset ← number_at 8 bytes
  first ← info_at offset.1
  doc_freq ← number_at 1 first.1
  postings ← number_at 1 doc_freq.1
  positions ← number_at 1 postings.1
  Some (record { offset = offset.0; ref_term_info = first.0; doc_freq_nbits = doc_freq.0; postings_offset_nbits = postings.0; positions_offset_nbits = positions.0 }, positions.1)

-- the number of bits of a term after the first of its block
abbrev pub term_bits : Meta → ℕ
term_bits m = m.postings_offset_nbits + m.positions_offset_nbits + m.doc_freq_nbits

-- the number of bits of a block of a number of terms
abbrev pub block_bits : Meta → ℕ → ℕ
block_bits m terms = (terms - 1) * term_bits m + m.postings_offset_nbits + m.positions_offset_nbits

-- where the postings of term k >= 1 begin, relative to the first term's; after the last term, where they end
abbrev pub postings_number : Meta → List ℕ → ℕ → ℕ
postings_number m bits k = bits_in 8 (drop m.offset bits) ((k - 1) * term_bits m) m.postings_offset_nbits

-- the same for positions
abbrev pub positions_number : Meta → List ℕ → ℕ → ℕ
positions_number m bits k = bits_in 8 (drop m.offset bits) ((k - 1) * term_bits m + m.postings_offset_nbits) m.positions_offset_nbits

-- the same for postings, from 0
abbrev pub postings_at : Meta → List ℕ → ℕ → ℕ
postings_at m bits k = m.ref_term_info.postings_range.start + postings_number m bits k

-- where the positions of term k begin
abbrev pub positions_start : Meta → List ℕ → ℕ → ℕ
positions_start m bits k = m.ref_term_info.positions_range.start + positions_number m bits k

-- the document frequency of term k
abbrev pub doc_freq_at : Meta → List ℕ → ℕ → ℕ
doc_freq_at m bits k = bits_in 8 (drop m.offset bits) ((k - 1) * term_bits m + m.postings_offset_nbits + m.positions_offset_nbits) m.doc_freq_nbits

-- a term after the first, which ends where the next one begins
unfoldable pub later_info : Meta → List ℕ → ℕ → TermInfo
later_info m bits k = term_info_from (doc_freq_at m bits k) (postings_at m bits k) (postings_at m bits (k + 1)) (positions_start m bits k) (positions_start m bits (k + 1))

-- term k of a block; the first one has its own ranges
abbrev pub block_info : Meta → List ℕ → ℕ → TermInfo
block_info m bits k = if k == 0 then m.ref_term_info else later_info m bits k

-- the number of blocks of a number of terms
abbrev pub block_count : ℕ → ℕ
block_count terms = (terms + (BLOCK_LEN - 1)) / BLOCK_LEN

-- the number of terms of block b
abbrev pub block_terms : ℕ → ℕ → ℕ
block_terms terms b = min BLOCK_LEN (terms - BLOCK_LEN * b)

-- whether no width is too large for its number
abbrev pub widths_fit : Meta → Bool
widths_fit m = nat_le m.doc_freq_nbits MAX_DOC_FREQ_NBITS && nat_le m.postings_offset_nbits MAX_OFFSET_NBITS && nat_le m.positions_offset_nbits MAX_OFFSET_NBITS

-- whether the bits of a block lie within a number of bytes; one term needs no bits
abbrev pub bits_lie : Meta → ℕ → ℕ → Bool
bits_lie m terms size = nat_le terms 1 || (block_bits m terms == 0) || nat_le (8 * m.offset + block_bits m terms) (8 * size)

-- whether a block of a number of terms is valid
unfoldable pub is_block : Meta → ℕ → List ℕ → Bool
is_block m terms bits = widths_fit m && bits_lie m terms (length bits) && list_all (λ k. is_sound (block_info m bits k)) (range_with_len 0 terms)

-- a meta whose bits begin at the first byte
abbrev pub at_start : Meta → Meta
at_start m = record { offset = 0; ref_term_info = m.ref_term_info; doc_freq_nbits = m.doc_freq_nbits; postings_offset_nbits = m.postings_offset_nbits; positions_offset_nbits = m.positions_offset_nbits }

-- the number of bytes of the bits of a block of a number of terms
abbrev pub bits_len : Meta → ℕ → ℕ
bits_len m terms = (block_bits m terms + 7) / 8

-- term k of a block of a number of terms, if widths and bits are valid and the term is
abbrev pub sound_term : Meta → ℕ → List ℕ → ℕ → Option TermInfo
sound_term m terms bits k =
    if nat_le terms BLOCK_LEN && nat_lt k terms && widths_fit m && bits_lie m terms (length bits) && is_sound (block_info m bits k) then Some (block_info m bits k) else None

-- the meta of block b
unfoldable pub block_meta_at : List ℕ → ℕ → Option Meta
block_meta_at metas b = option_map (λ found. found.0) (meta_at (drop (meta_size * b) metas))

-- whether block b is valid
abbrev pub has_block : List ℕ → List ℕ → ℕ → ℕ → Bool
has_block metas bits terms b = unwrap_or (option_map (λ m. is_block m (block_terms terms b) bits) (block_meta_at metas b)) false

-- term i of the store, in its block
unfoldable pub term_info_at : List ℕ → List ℕ → ℕ → TermInfo
term_info_at metas bits i = unwrap_or (option_map (λ m. block_info m bits (i % BLOCK_LEN)) (block_meta_at metas (i / BLOCK_LEN))) (term_info_from 0 0 0 0 0)

-- the number of terms, the bytes from the metas on, and the bits
unfoldable pub store_parts : List ℕ → Option (ℕ × List ℕ × List ℕ)
store_parts bytes = do
  metas_len ← number_at 8 bytes
  terms ← number_at 8 metas_len.1
  _ ← needs (metas_len.0 == meta_size * block_count terms.0)
  _ ← needs (nat_le metas_len.0 (length terms.1))
  Some (terms.0, terms.1, drop metas_len.0 terms.1)

-- whether all blocks are valid
abbrev pub are_blocks : ℕ → List ℕ → List ℕ → Bool
are_blocks terms metas bits = list_all (has_block metas bits terms) (range_with_len 0 (block_count terms))

-- the list that a store's bytes hold
unfoldable pub term_store : List ℕ → Option (List TermInfo)
term_store bytes = do
  parts ← store_parts bytes
  _ ← needs (are_blocks parts.0 parts.1 parts.2)
  Some (map (term_info_at parts.1 parts.2) (range_with_len 0 parts.0))

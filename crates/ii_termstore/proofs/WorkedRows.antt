-- Worked rows, each computed.
use Rattle.std.specs.Prelude.{◌≡◌, [], ◌∷◌, ◌++◌, replicate, Some, List, ℕ, refl}
use Rattle.ii_io.specs.Numbers.{le_bytes, number_at}
use Rattle.ii_codes.specs.Packed.{bits_in, entries_in, num_bits}
use Rattle.ii_codes.specs.Bits.{bits_bytes}
use Rattle.ii_termstore.specs.TermInfos.{term_info_from, info_at, info_bytes}
use Rattle.ii_termstore.specs.TermStore.{meta_at, meta_bytes, later_info, is_block, block_meta_at, term_info_at, store_parts, term_store}
use Rattle.ii_termstore.specs.Written.{written_store, meta_at_block, meta_for, bits_of_block}

-- the store of one term, in 3 documents with 3 bytes of postings
pub one_written : written_store (term_info_from 3 0 3 0 0 ∷ []) ≡ 0x27 ∷ replicate 7 0 ++ 1 ∷ replicate 7 0 ++ replicate 8 0 ++ 3 ∷ replicate 11 0 ++ 3 ∷ replicate 15 0 ++ 0 ∷ 2 ∷ 0 ∷ 3 ∷ []
unfolding written_store meta_at_block meta_for meta_bytes info_bytes le_bytes bits_of_block bits_bytes entries_in bits_in num_bits
one_written = refl

-- two terms: 1 document with bytes 0 to 2, and 2 documents with bytes 2 to 5, in widths 2, 3 and 0
abbrev two : List ℕ
two = 0x27 ∷ replicate 7 0 ++ 2 ∷ replicate 7 0 ++ replicate 8 0 ++ 1 ∷ replicate 11 0 ++ 2 ∷ replicate 15 0 ++ 2 ∷ 3 ∷ 0 ∷ 0xB2 ∷ []

pub two_written : written_store (term_info_from 1 0 2 0 0 ∷ term_info_from 2 2 5 0 0 ∷ []) ≡ two
unfolding written_store meta_at_block meta_for meta_bytes info_bytes le_bytes bits_of_block bits_bytes entries_in bits_in num_bits
two_written = refl

pub two_read : term_store two ≡ Some (term_info_from 1 0 2 0 0 ∷ term_info_from 2 2 5 0 0 ∷ [])
unfolding number_at term_store store_parts block_meta_at meta_at info_at is_block later_info term_info_at bits_in
two_read = refl

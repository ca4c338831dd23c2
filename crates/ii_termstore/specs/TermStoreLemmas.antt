-- Laws of the bytes of a block's meta.
use Rattle.std.proofs.Common.{◌≡◌, ℕ, ◌+◌, ◌*◌, ◌^◌, ◌<◌, ◌≤◌, List, [], ◌∷◌, ◌++◌, length, drop, get_or, Some, refl, arith, length-append, append_assoc}
use Rattle.std.proofs.lemmas.Bool.{le-leb}
use Rattle.ii_io.specs.Numbers.{le_bytes, number_at}
use Rattle.ii_io.specs.NumberLemmas.{reads_what_is_written, length_le_bytes}
use Rattle.ii_termstore.specs.declared.term_info_store.block_meta.TermInfoBlockMeta.{TermInfoBlockMeta as Meta}
use Rattle.ii_termstore.specs.TermInfos.{info_bytes, HasLengths, IsInRange}
use Rattle.ii_termstore.specs.TermInfoLemmas.{reads_info_back, length_info_bytes}
use Rattle.ii_termstore.specs.TermStore.{meta_size, meta_bytes, meta_at}

-- a byte at the front
pub number_at-byte : (b : ℕ) (rest : List ℕ) → number_at 1 (b ∷ rest) ≡ Some (b, rest)
unfolding number_at
number_at-byte b rest =
    let enough : 1 ≤ length (b ∷ rest) = omega arith in
    let value : b + 256 * 0 ≡ b = omega arith in
    rw (le-leb 1 (length (b ∷ rest)) enough, value) refl

pub length_meta_bytes : (m : Meta) → length (meta_bytes m) ≡ meta_size
unfolding meta_bytes
length_meta_bytes m = simp (length-append, length_le_bytes, length_info_bytes)

pub reads_meta_back : (m : Meta) (rest : List ℕ) → m.offset < 256 ^ 8 → IsInRange m.ref_term_info → HasLengths m.ref_term_info → meta_at (meta_bytes m ++ rest) ≡ Some (m, rest)
unfolding meta_at meta_bytes
reads_meta_back m rest offset range lengths =
    let widths = m.doc_freq_nbits ∷ m.postings_offset_nbits ∷ m.positions_offset_nbits ∷ rest in
    let front : (le_bytes 8 m.offset ++ info_bytes m.ref_term_info ++ m.doc_freq_nbits ∷ m.postings_offset_nbits ∷ m.positions_offset_nbits ∷ []) ++ rest
    ≡ le_bytes 8 m.offset ++ (info_bytes m.ref_term_info ++ m.doc_freq_nbits ∷ m.postings_offset_nbits ∷ m.positions_offset_nbits ∷ rest) = simp append_assoc
    in
    let first = reads_what_is_written 8 m.offset (info_bytes m.ref_term_info ++ m.doc_freq_nbits ∷ m.postings_offset_nbits ∷ m.positions_offset_nbits ∷ rest) offset in
    let second = reads_info_back m.ref_term_info (m.doc_freq_nbits ∷ m.postings_offset_nbits ∷ m.positions_offset_nbits ∷ rest) range lengths in
    rw (front, first, second, number_at-byte m.doc_freq_nbits (m.postings_offset_nbits ∷ m.positions_offset_nbits ∷ rest), number_at-byte m.postings_offset_nbits (m.positions_offset_nbits ∷ rest), number_at-byte m.positions_offset_nbits rest) refl

pub number_at-front : (bytes : List ℕ) → 0 < length bytes → number_at 1 bytes ≡ Some (get_or bytes 0 0, drop 1 bytes)
number_at-front [] h = absurd (omega arith)
number_at-front (b ∷ rest) h = number_at-byte b rest

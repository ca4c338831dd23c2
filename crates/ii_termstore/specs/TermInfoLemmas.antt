-- Laws of the bytes of a term.
use Rattle.std.proofs.Common.{◌≡◌, ℕ, ◌+◌, ◌-◌, List, ◌++◌, length, Some, refl, arith, length-append, append_assoc}
use Rattle.std.proofs.lemmas.Bool.{lt-ltb}
use Rattle.ii_io.specs.Numbers.{le_bytes}
use Rattle.ii_io.specs.NumberLemmas.{reads_what_is_written, length_le_bytes}
use Rattle.ii_termstore.specs.declared.term_info.TermInfo.{TermInfo}
use Rattle.ii_termstore.specs.TermInfos.{info_size, postings_len, positions_len, info_bytes, info_at, HasLengths, IsInRange}

pub length_info_bytes : (i : TermInfo) → length (info_bytes i) ≡ info_size
unfolding info_bytes
length_info_bytes i = simp (length-append, length_le_bytes)

pub reads_info_back : (i : TermInfo) (rest : List ℕ) → IsInRange i → HasLengths i → info_at (info_bytes i ++ rest) ≡ Some (i, rest)
unfolding info_at info_bytes
reads_info_back i rest range lengths =
    let a = i.postings_range.start in
    let p = i.positions_range.start in
    let front :
    (le_bytes 4 i.doc_freq ++ le_bytes 8 i.postings_range.start ++ le_bytes 4 (postings_len i) ++ le_bytes 8 i.positions_range.start ++ le_bytes 4 (positions_len i)) ++ rest
    ≡ le_bytes 4 i.doc_freq ++ (le_bytes 8 i.postings_range.start ++ (le_bytes 4 (postings_len i) ++ (le_bytes 8 i.positions_range.start ++ (le_bytes 4 (positions_len i) ++ rest)))) = simp append_assoc
    in
    let forward = lengths.postings in
    let forward_too = lengths.positions in
    let ends = range.postings in
    let ends_too = range.positions in
    let first = reads_what_is_written 4 i.doc_freq (le_bytes 8 i.postings_range.start ++ (le_bytes 4 (postings_len i) ++ (le_bytes 8 i.positions_range.start ++ (le_bytes 4 (positions_len i) ++ rest)))) range.doc_freq in
    let second = reads_what_is_written 8 i.postings_range.start (le_bytes 4 (postings_len i) ++ (le_bytes 8 i.positions_range.start ++ (le_bytes 4 (positions_len i) ++ rest))) (omega arith) in
    let third = reads_what_is_written 4 (postings_len i) (le_bytes 8 i.positions_range.start ++ (le_bytes 4 (positions_len i) ++ rest)) lengths.postings_short in
    let fourth = reads_what_is_written 8 i.positions_range.start (le_bytes 4 (positions_len i) ++ rest) (omega arith) in
    let fifth = reads_what_is_written 4 (positions_len i) rest lengths.positions_short in
    let end : i.postings_range.start + (i.postings_range.end - i.postings_range.start) ≡ i.postings_range.end = omega arith in
    let end_too : i.positions_range.start + (i.positions_range.end - i.positions_range.start) ≡ i.positions_range.end = omega arith in
    rw (front, first, second, third, fourth, fifth, end, end_too, lt-ltb i.postings_range.end 18446744073709551616 ends, lt-ltb i.positions_range.end 18446744073709551616 ends_too) refl

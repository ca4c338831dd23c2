-- Blocks that can't have one of the most frequent documents.
use Rattle.std.specs.Prelude.{ℕ, ◌+◌, ◌-◌, ◌*◌, ◌&&◌, Bool, List, filter, length, nat_le, nat_lt, slice_index_or, take, if◌then◌else◌}
use Rattle.std.specs.List.{range_with_len, sum_by}
use Rattle.ii_base.specs.Entries.{Entry}
use Rattle.ii_reader.specs.SegmentPostings.{SegmentPostingsState}

-- whether at least n entries have no smaller count than a bound; the bounds 0 and 2^32 - 1 say nothing
abbrev pub is_hopeless : ℕ → ℕ → List Entry → Bool
is_hopeless n bound es = nat_lt 0 bound && (nat_lt bound 4294967295 && nat_le n (length (filter (λ (e : Entry). nat_le bound e.term_freq) es)))

-- whether a block of a cursor is hopeless by the remaining documents before it
abbrev pub is_hopeless_block : ℕ → SegmentPostingsState → ℕ → Bool
is_hopeless_block n s block = is_hopeless n (slice_index_or s.bounds block (0, 0)).1 (take (128 * block + length s.rest - s.doc_freq) s.rest)

-- how many blocks after a cursor's block, up to another, aren't hopeless by the remaining documents before them
abbrev pub hopeful_blocks : ℕ → SegmentPostingsState → ℕ → ℕ
hopeful_blocks n s to = sum_by (λ b. if is_hopeless_block n s b then 0 else 1) (range_with_len (s.block + 1) (to - s.block))

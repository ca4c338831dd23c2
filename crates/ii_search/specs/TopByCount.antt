-- The documents of a list with the greatest counts, and the blocks that may hold one of them.
use Rattle.std.specs.Prelude.{◌≡◌, false, ℕ, ◌+◌, ◌-◌, ◌*◌, ◌^◌, ◌≤◌, List, [], ◌∷◌, length, min, nat_le, nat_lt, take, if◌then◌else◌}
use Rattle.std.specs.List.{fold, range_with_len, sum_by}
use Rattle.ii_base.specs.Entries.{Entry}
use Rattle.ii_check.specs.CheckedPostings.{excludes}
use Rattle.ii_check.specs.DecodedBlocks.{DecodesAllowed}
use Rattle.ii_reader.specs.Bounds.{freq_bound}
use Rattle.ii_reader.specs.SegmentPostings.{SegmentPostingsState}

-- a document and its count, inserted after those with no smaller count
abbrev pub placed : ℕ × ℕ → List (ℕ × ℕ) → List (ℕ × ℕ)
placed e [] = e ∷ []
placed e (b ∷ bs) = if nat_le e.1 b.1 then b ∷ placed e bs else e ∷ b ∷ bs

-- the documents of entries with their counts, the greatest first, and of equal ones the smaller document
abbrev pub by_count : List Entry → List (ℕ × ℕ)
by_count es = fold (λ (sorted : List (ℕ × ℕ)) (e : Entry). placed (e.doc, e.term_freq) sorted) [] es

-- the first n of these
abbrev pub top : ℕ → List Entry → List (ℕ × ℕ)
top n es = take n (by_count es)

-- the least count of a row, of at most 32 bits
abbrev pub least_count : List (ℕ × ℕ) → ℕ
least_count row = fold (λ (least : ℕ) (b : ℕ × ℕ). min least b.1) (2 ^ 32 - 1) row

-- the count that one more document needs to be among the first n, given the first n of those before it
abbrev pub needed : ℕ → List (ℕ × ℕ) → ℕ
needed n row = if nat_lt (length row) n then 0 else min (2 ^ 32 - 1) (least_count row + 1)

-- the remaining documents before a block
abbrev pub before_block : SegmentPostingsState → ℕ → List Entry
before_block s block = take (128 * block + length s.rest - s.doc_freq) s.rest

-- how many blocks after the current one, up to another, may have one of the first n documents by their bounds and the documents before them
abbrev pub blocks_for_top : ℕ → SegmentPostingsState → ℕ → ℕ
blocks_for_top n s to = sum_by (λ b. if excludes (needed n (top n (before_block s b))) (freq_bound s.bounds b) then 0 else 1) (range_with_len (s.block + 1) (to - s.block))

-- A block may have one of the first n documents, by its bound and the documents before it.
abbrev pub AllowsTop : ℕ → SegmentPostingsState → ℕ → Type 0
AllowsTop n s block = excludes (needed n (top n (before_block s block))) (freq_bound s.bounds block) ≡ false

-- A cursor decoded only later blocks that may have one of the first n documents, each at most once.
pub record DecodesForTop (n : ℕ) (old new : SegmentPostingsState) : Type 0 where
  pub doc_blocks : DecodesAllowed (AllowsTop n old) old.block new.block old.doc_blocks new.doc_blocks
  pub freq_blocks : DecodesAllowed (AllowsTop n old) old.block new.block old.freq_blocks new.freq_blocks
  pub docs : new.doc_decodes ≤ old.doc_decodes + blocks_for_top n old new.block
  pub freqs : new.freq_decodes ≤ old.freq_decodes + blocks_for_top n old new.block

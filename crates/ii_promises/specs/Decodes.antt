-- What the cursors of a query have decoded, in numbers.
use Rattle.std.specs.Prelude.{ℕ, ◌+◌, ◌*◌, ◌/◌, ◌≤◌, length}
use Rattle.ii_check.specs.DecodedBlocks.{AscendWithin}
use Rattle.std.specs.List.{AllByRecursion, sum_by}
use Rattle.ii_base.specs.Entries.{Entry}
use Rattle.ii_query.specs.declared.term_or_phrase.TermOrPhrase.{TermOrPhrase}
use Rattle.ii_query.specs.declared.term_or_phrase.TermOrPhrase.TheVariants.{Term, Phrase}
use Rattle.ii_reader.specs.SegmentPostings.{SegmentPostingsState}

-- Only blocks up to the current one were decoded, none of them twice: at most `block` + 1 of documents, and of term frequencies.
abbrev pub HasDecodedFew : SegmentPostingsState → Type 0
HasDecodedFew s = (s.doc_decodes ≤ s.block + 1) × (s.freq_decodes ≤ s.block + 1) × AscendWithin 0 s.block s.doc_blocks × AscendWithin 0 s.block s.freq_blocks

-- `HasDecodedFew` holds for the cursor of a term, and for each cursor of a phrase.
abbrev pub HaveDecodedFew : TermOrPhrase SegmentPostingsState → Type 0
HaveDecodedFew (Term cursor) = HasDecodedFew cursor
HaveDecodedFew (Phrase cursor) = AllByRecursion HasDecodedFew cursor.phrase.cursors

-- the number of positions of the remaining documents
abbrev pub num_remaining_positions : SegmentPostingsState → ℕ
num_remaining_positions s = sum_by (λ (e : Entry). length e.positions) s.rest

-- Between two states a cursor decoded the blocks of at most all remaining positions, read 64 at a time.
abbrev pub ReadsEachOnce : SegmentPostingsState → SegmentPostingsState → Type 0
ReadsEachOnce old new =
    let m = num_remaining_positions old in new.position_decodes ≤ old.position_decodes + 2 * (m / 64 + length old.rest) + m / 128

-- What the cursors of a query have decoded.
use Rattle.std.specs.Prelude.{◌+◌, ◌≤◌}
use Rattle.std.specs.List.{AllByRecursion}
use Rattle.ii_check.specs.DecodedBlocks.{AscendWithin}
use Rattle.ii_query.specs.declared.term_or_phrase.TermOrPhrase.{TermOrPhrase}
use Rattle.ii_query.specs.declared.term_or_phrase.TermOrPhrase.TheVariants.{Term, Phrase}
use Rattle.ii_reader.specs.SegmentPostings.{SegmentPostingsState}

-- Only blocks of a list that the cursor has reached were decoded, each at most once, of documents and of counts.
pub record DecodesFew (s : SegmentPostingsState) : Type 0 where
  pub doc_decodes : s.doc_decodes ≤ s.block + 1
  pub freq_decodes : s.freq_decodes ≤ s.block + 1
  pub doc_blocks : AscendWithin 0 s.block s.doc_blocks
  pub freq_blocks : AscendWithin 0 s.block s.freq_blocks

-- So it is of the cursor of a term, and of each one of a phrase.
abbrev pub EachDecodesFew : TermOrPhrase SegmentPostingsState → Type 0
EachDecodesFew (Term cursor) = DecodesFew cursor
EachDecodesFew (Phrase cursor) = AllByRecursion DecodesFew cursor.phrase.cursors

-- The file of a segment that holds the tables of its other files.
use Rattle.std.specs.Prelude.{ℕ, List, [], ◌++◌, Option, None, Some}
use Rattle.ii_block_file.specs.BlockTable.{block_table_of}
use Rattle.ii_segment_store.specs.Contents.{SegmentContents}

-- the checksums of the blocks of a file
abbrev pub file_table : List ℕ → List ℕ
file_table bytes = (block_table_of bytes).bytes

-- the checksums of the blocks of a file that a segment may not have
abbrev pub table_if : Option (List ℕ) → List ℕ
table_if None = []
table_if (Some bytes) = file_table bytes

-- the tables of the files of a segment, one after the other in the order of `meta`
unfoldable pub segment_tables : SegmentContents → List ℕ
segment_tables s = file_table s.terms ++ file_table s.postings ++ file_table s.positions ++ file_table s.fieldnorms ++ table_if s.counts ++ table_if s.store

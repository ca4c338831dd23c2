use Rattle.std.proofs.Common.{◌≡◌, List, Ok, length}
use Rattle.ii_reader.specs.InvertedIndexReader.{InvertedIndexReaderState}
use Rattle.ii_reader.specs.OpenIndex.{IndexBodies, field_readers}
use Rattle.ii_warmup.specs.IndexParts.{KnownTables}
use Rattle.ii_warmup.specs.QueryTerms.{requests_of}
use Rattle.ii_warmup.proofs.IndexPartLemmas.{ArePartsBefore}
use Rattle.ii_warmup.proofs.index_parts.IndexTables.open_fields.Given as goal

abbrev pub invariant-loop-place : goal.invariant-loop-place
invariant-loop-place g l = record {
  size : l.place ≡ length l.readers.items;
  parts : (bodies : IndexBodies) (whole : List InvertedIndexReaderState) → KnownTables (g.H.FileHandle.bytes l.self.terms.file) (g.H.FileHandle.bytes l.self.postings.file) (g.H.FileHandle.bytes l.self.positions.file) bodies → field_readers bodies l.schema ≡ Ok whole
      → ArePartsBefore (requests_of l.terms l.ranges) whole l.place l.readers.items;
}

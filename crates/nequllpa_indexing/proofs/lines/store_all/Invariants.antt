use Rattle.std.proofs.Common.{◌≡◌, [], false, map, string_bytes}
use Rattle.ii_io.specs.CountingWriter.{CountingWriterState}
use Rattle.ii_doc_store.specs.StoreWriter.{HasStored}
use Rattle.nequllpa_indexing.specs.StoredLines.{AreShort}
use Rattle.nequllpa_indexing.proofs.lines.store_all.Given as goal

-- the lines so far were stored, and the others may be
abbrev pub invariant-loop-line : goal.invariant-loop-line
invariant-loop-line g l = record {
  next : (goal.iterator-loop-line g).can_next l.line-iterator;
  finite : (goal.iterator-loop-line g).is_finite l.line-iterator;
  stored : (initial : CountingWriterState) → HasStored initial l.fn.writer [] → HasStored initial l.writer (map string_bytes l.yielded);
  short : AreShort (map string_bytes l.line-iterator.rest.items);
  unclosed : l.writer.closed ≡ false;
}

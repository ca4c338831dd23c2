use Rattle.std.proofs.Common.{◌≡◌, IfSome, Ok, false}
use Rattle.ii_doc_store.specs.StoreReader.{IsBlockOf}
use Rattle.ii_doc_store_merger.specs.StoreSources.{IsReadable, StoresMore, opened_store}
use Rattle.ii_doc_store_merger.proofs.ReadLemmas.{HasStoredTo}
use Rattle.ii_doc_store_merger.proofs.source.store_source.Given as goal

abbrev pub invariant-loop-doc : goal.invariant-loop-doc
invariant-loop-doc g l = record {
  so_far : IsReadable g.H.FileHandle.bytes g.H.FileHandle.is_sound l.source → HasStoredTo (opened_store g.H.FileHandle.bytes l.source) l.doc l.fn.writer l.writer;
  unclosed : l.writer.closed ≡ false;
  more : StoresMore l.fn.writer l.writer (Ok tt);
  kept : IsReadable g.H.FileHandle.bytes g.H.FileHandle.is_sound l.source → IfSome l.kept (IsBlockOf (opened_store g.H.FileHandle.bytes l.source).store.bytes l.source.store.checkpoints);
}

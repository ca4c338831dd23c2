use Rattle.std.proofs.Common.{◌≡◌, Ok, false, map, take}
use Rattle.std.specs.List.{AllByRecursion}
use Rattle.ii_doc_store_merger.specs.StoreSources.{IsReadable, StoresAll, StoresMore, opened_store}
use Rattle.ii_doc_store_merger.proofs.merged_store.store_all.Given as goal

abbrev pub invariant-loop-place : goal.invariant-loop-place
invariant-loop-place g l = record {
  so_far : AllByRecursion (IsReadable g.H.FileHandle.bytes g.H.FileHandle.is_sound) l.sources → StoresAll (take l.place (map (opened_store g.H.FileHandle.bytes) l.sources)) l.fn.writer l.writer;
  unclosed : l.writer.closed ≡ false;
  more : StoresMore l.fn.writer l.writer (Ok tt);
}

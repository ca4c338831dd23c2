use Rattle.std.proofs.Common.{map, take}
use Rattle.std.specs.List.{AllByRecursion, AllZip}
use Rattle.ii_doc_store_merger.specs.StoreSources.{FitsFlags, IsReadable, opened_store}
use Rattle.nequllpa_merging.specs.StoredDocuments.{KnowsStore, OpensStore, file_bytes, is_sound_file, stored_view}
use Rattle.nequllpa_merging.proofs.stores.open_stores.Given as goal

abbrev pub invariant-loop-place : goal.invariant-loop-place
invariant-loop-place g l = record {
  opened : AllByRecursion (KnowsStore g.F.ReadAt.bytes) l.segments → AllZip OpensStore (take l.place (map (stored_view g.F.ReadAt.bytes) l.segments)) (map (opened_store (file_bytes g.F.ReadAt.bytes)) l.sources.items);
  fit : AllByRecursion FitsFlags (map (opened_store (file_bytes g.F.ReadAt.bytes)) l.sources.items);
  readable : AllByRecursion (KnowsStore g.F.ReadAt.bytes) l.segments → AllByRecursion (IsReadable (file_bytes g.F.ReadAt.bytes) (is_sound_file g.F.ReadAt.bytes)) l.sources.items;
}

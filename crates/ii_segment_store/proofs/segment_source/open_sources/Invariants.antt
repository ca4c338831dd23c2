use Rattle.std.proofs.Common.{◌≡◌}
use Rattle.std.specs.Prelude.{map}
use Rattle.std.specs.List.{AllByRecursion}
use Rattle.ii_store.specs.IndexMeta.{segment_view}
use Rattle.ii_segment_store.specs.Contents.{all_contents, segment_in}
use Rattle.ii_segment_store.specs.Sources.{HasKnownStore, source_contents}
use Rattle.ii_segment_store.proofs.LoadLaws.{segments_from, with_front}
use Rattle.ii_segment_store.proofs.segment_source.open_sources.Given as goal

-- what was opened, and what is still to be opened, is all of it; what was opened has known bytes
abbrev pub invariant-loop-segment : goal.invariant-loop-segment
invariant-loop-segment g l = record {
  answers : g.D.Directory.is_known l.directory → with_front (map (source_contents g.D.File.ReadAt.bytes) l.sources.items) (segments_from segment_in l.segment-index l.listed (g.D.Directory.seen l.directory)) ≡ all_contents (map segment_view l.listed) (g.D.Directory.seen l.directory);
  known : g.D.Directory.is_known l.directory → AllByRecursion (HasKnownStore g.D.File.ReadAt.bytes) l.sources.items;
}

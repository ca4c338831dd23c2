use Rattle.std.proofs.Common.{◌≡◌}
use Rattle.std.specs.Prelude.{map}
use Rattle.ii_store.specs.IndexMeta.{segment_view}
use Rattle.ii_segment_store.specs.Contents.{all_contents, segment_contents, segment_in}
use Rattle.ii_segment_store.proofs.LoadLaws.{segments_from, with_front}
use Rattle.ii_segment_store.proofs.loading.load_each.Given as goal

-- what was loaded, and what is still to be loaded, is all of it
abbrev pub invariant-loop-segment : goal.invariant-loop-segment
invariant-loop-segment g l = g.D.Directory.is_known l.directory → with_front (map segment_contents l.segments.items) (segments_from segment_in l.segment-index l.listed (g.D.Directory.seen l.directory)) ≡ all_contents (map segment_view l.listed) (g.D.Directory.seen l.directory)

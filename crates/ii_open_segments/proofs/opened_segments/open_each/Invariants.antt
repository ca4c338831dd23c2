use Rattle.std.proofs.Common.{◌≡◌}
use Rattle.std.specs.Prelude.{map}
use Rattle.ii_store.specs.IndexMeta.{segment_view}
use Rattle.ii_segment_store.specs.Contents.{all_of}
use Rattle.ii_open_segments.specs.OpenSegments.{opened_segment}
use Rattle.ii_segment_store.proofs.LoadLaws.{segments_from, with_front}
use Rattle.ii_open_segments.proofs.opened_segments.open_each.Given as goal

-- what was opened, and what is still to be opened, is all of it
abbrev pub invariant-loop-segment : goal.invariant-loop-segment
invariant-loop-segment g l = g.D.Directory.is_known l.directory → with_front l.segments.items (segments_from opened_segment l.segment-index l.listed (g.D.Directory.seen l.directory)) ≡ all_of opened_segment (map segment_view l.listed) (g.D.Directory.seen l.directory)

use Rattle.std.proofs.Common.{◌≡◌, length, map}
use Rattle.ii_directory.specs.Directory.{Elapses}
use Rattle.ii_store.specs.IndexMeta.{segment_view}
use Rattle.ii_segment_store.specs.Changes.{AreChanged, KeepsOlder}
use Rattle.ii_segment_store.proofs.deleting.flag_segments.Given as goal

-- the segments before the place were changed, and nothing else; the directory still obeys
abbrev pub invariant-loop-place : goal.invariant-loop-place
invariant-loop-place g l = record {
  known : g.D.Directory.is_known l.initial.directory → g.D.Directory.is_known l.directory;
  still : g.D.Directory.may_refuse l.directory → g.D.Directory.may_refuse l.initial.directory;
  many : length l.flagged.items ≡ l.place;
  changed : g.D.Directory.is_known l.initial.directory → AreChanged (map (λ v. v.items) l.deleted) l.latest (map segment_view l.segments) (map segment_view l.flagged.items) (g.D.Directory.seen l.initial.directory) (g.D.Directory.seen l.directory);
  time : g.D.Directory.is_known l.initial.directory → Elapses (g.D.Directory.moment l.initial.directory) (g.D.Directory.moment l.directory) (g.D.Directory.left_since l.initial.directory) (g.D.Directory.left_since l.directory) (KeepsOlder l.latest (g.D.Directory.seen l.initial.directory));
}

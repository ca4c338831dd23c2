use Rattle.std.proofs.Common.{◌≡◌}
use Rattle.std.specs.Prelude.{map}
use Rattle.ii_store.specs.IndexMeta.{segment_view}
use Rattle.ii_segment_store.specs.WantedFiles.{wanted_segment}
use Rattle.ii_segment_store.proofs.KeptLaws.{first_changed}
use Rattle.ii_segment_store.proofs.wanted_files.WantedFiles.keep_in_each.Given as goal

-- the segments before the index list the wanted files alone
abbrev pub invariant-loop-segment : goal.invariant-loop-segment
invariant-loop-segment l = map segment_view l.segments ≡ first_changed (wanted_segment l.self) l.segment-index (map segment_view l.fn.segments)

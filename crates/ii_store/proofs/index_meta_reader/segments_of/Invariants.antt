use Rattle.std.proofs.Common.{◌≡◌, ◌-◌}
use Rattle.std.specs.Prelude.{map}
use Rattle.ii_store.specs.IndexMeta.{segment_at, items_at, segment_view}
use Rattle.ii_store.proofs.ListLoop.{with_front}
use Rattle.ii_store.proofs.index_meta_reader.segments_of.Given as goal

-- what was read, and what is still to be read, is all of it
abbrev pub invariant-loop : goal.invariant-loop
invariant-loop l = with_front (map segment_view l.segments.items) (items_at (segment_at l.version) (l.count - l.counter) l.rest) ≡ items_at (segment_at l.version) l.count l.bytes

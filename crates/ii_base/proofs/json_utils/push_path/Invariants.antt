use Rattle.std.proofs.Common.{◌≡◌, ◌++◌, map, take, string_bytes}
use Rattle.ii_base.specs.Paths.{segment_bytes}
use Rattle.ii_base.proofs.json_utils.push_path.Given as goal

abbrev pub invariant-loop-segment : goal.invariant-loop-segment
invariant-loop-segment l = l.writer ≡ record l.fn.writer { segments = l.fn.writer.segments ++ map (segment_bytes l.fn.writer.expand_dots) (map string_bytes (take l.segment-index l.segment-items)) }

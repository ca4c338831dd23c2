use Rattle.std.proofs.Common.{map, length, string_bytes}
use Rattle.std.specs.Str.Iter.{chars_rest}
use Rattle.ii_base.proofs.SplitLemmas.{IsSplitting}
use Rattle.ii_base.proofs.json_utils.split_json_path.Given as goal

abbrev pub invariant-loop-c : goal.invariant-loop-c
invariant-loop-c l = IsSplitting l.fn.path (map string_bytes l.segments.items) (string_bytes l.segment) (chars_rest l.chars)

abbrev pub decreases-loop-c : goal.decreases-loop-c
decreases-loop-c l = length (chars_rest l.chars)

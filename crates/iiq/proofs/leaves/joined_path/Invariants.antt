use Rattle.std.proofs.Common.{◌≡◌, ℕ, List, false, map, take, string_bytes}
use Rattle.ii_base.specs.Paths.{PathState}
use Rattle.iiq.proofs.leaves.joined_path.Given as goal

abbrev path_of : List (List ℕ) → PathState
path_of segments = record { segments = segments; expand_dots = false }

abbrev pub invariant-loop-segment : goal.invariant-loop-segment
invariant-loop-segment l = l.writer ≡ path_of (map string_bytes (take l.segment-index l.segment-items))

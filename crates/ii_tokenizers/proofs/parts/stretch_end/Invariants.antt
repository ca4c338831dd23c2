use Rattle.std.proofs.Common.{◌<◌, ◌≤◌, ◌-◌, length}
use Rattle.ii_tokenizers.proofs.parts.stretch_end.Given as goal

abbrev pub invariant-loop-place : goal.invariant-loop-place
invariant-loop-place l = l.place ≤ l.end

abbrev pub decreases-loop-place : goal.decreases-loop-place
decreases-loop-place l = l.place

abbrev pub invariant-loop-next : goal.invariant-loop-next
invariant-loop-next l = l.start < l.next

abbrev pub decreases-loop-next : goal.decreases-loop-next
decreases-loop-next l = length l.bytes - l.next

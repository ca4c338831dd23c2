use Rattle.std.proofs.Common.{◌≡◌, ◌+◌, ◌++◌, length}
use Rattle.ii_codes.specs.Sums.{differences}
use Rattle.ii_recorder.specs.Gathered.{behind_positions, first_positions}
use Rattle.ii_recorder.proofs.recorder.take_deltas.Given as goal

abbrev pub invariant-loop-number : goal.invariant-loop-number
invariant-loop-number l =
    goal.iterator-loop-number.can_next l.numbers
    × goal.iterator-loop-number.is_finite l.numbers
    × (differences 0 (first_positions l.initial.numbers) ≡ l.deltas.items ++ differences l.last (first_positions l.numbers))
    × (behind_positions l.initial.numbers ≡ behind_positions l.numbers)
    × (l.count + length (first_positions l.numbers) ≡ length (first_positions l.initial.numbers))

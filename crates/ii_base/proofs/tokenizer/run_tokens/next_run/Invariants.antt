use Rattle.std.proofs.Common.{◌≡◌, ◌≤◌, ◌-◌, ◌+◌, length}
use Rattle.ii_base.specs.RunTokens.{words_to_come}
use Rattle.ii_base.proofs.tokenizer.run_tokens.next_run.Given as goal

abbrev pub invariant-loop-start : goal.invariant-loop-start
invariant-loop-start l =
    (words_to_come l.fn.limit l.text l.passed l.start ≡ words_to_come l.fn.limit l.text l.fn.passed l.fn.next)
    × (l.passed ≤ l.start) × (l.start ≤ length l.text + 1)

abbrev pub decreases-loop-start : goal.decreases-loop-start
decreases-loop-start l = length l.text - l.start

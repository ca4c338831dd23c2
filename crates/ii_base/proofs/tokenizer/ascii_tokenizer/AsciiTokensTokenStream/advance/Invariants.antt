use Rattle.std.proofs.Common.{◌≡◌, ◌≤◌, ◌-◌, length}
use Rattle.ii_base.specs.AsciiWords.{words_from}
use Rattle.ii_base.proofs.tokenizer.ascii_tokenizer.AsciiTokensTokenStream.advance.Given as goal

abbrev pub invariant-loop-at : goal.invariant-loop-at
invariant-loop-at l = (l.fn.self.end ≤ l.at) × (words_from l.text l.fn.self.passed l.at ≡ words_from l.text l.fn.self.passed l.fn.self.end)

abbrev pub decreases-loop-at : goal.decreases-loop-at
decreases-loop-at l = length l.text - l.at

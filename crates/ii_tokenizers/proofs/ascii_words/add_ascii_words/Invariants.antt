use Rattle.std.proofs.Common.{◌≡◌, ◌+◌, ◌-◌, ◌≤◌, ◌++◌, drop, length}
use Rattle.ii_base.specs.Parts.{ascii_parts, part_words}
use Rattle.ii_tokenizers.proofs.ascii_words.add_ascii_words.Given as goal

abbrev pub invariant-loop-start : goal.invariant-loop-start
invariant-loop-start l =
    (l.tokens ++ part_words (length l.tokens) (ascii_parts (l.at + l.start) (drop l.start l.text))
    ≡ l.fn.tokens ++ part_words (length l.fn.tokens) (ascii_parts l.at l.text))
    × (l.start ≤ length l.text + 1)

abbrev pub decreases-loop-start : goal.decreases-loop-start
decreases-loop-start l = length l.text - l.start

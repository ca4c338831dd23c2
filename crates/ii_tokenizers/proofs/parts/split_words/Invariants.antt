use Rattle.std.proofs.Common.{◌≡◌, ◌-◌, ◌++◌, drop, length}
use Rattle.std.specs.Prelude.{IsCharBoundary}
use Rattle.ii_base.specs.Parts.{part_words}
use Rattle.ii_tokenizers.specs.Analyzers.{rule_parts, split_words}
use Rattle.ii_tokenizers.proofs.parts.split_words.Given as goal

abbrev pub invariant-loop-start : goal.invariant-loop-start
invariant-loop-start l =
    (l.tokens ++ part_words (length l.tokens) (rule_parts l.start (drop l.start l.text)) ≡ split_words l.text) × IsCharBoundary l.text l.start

abbrev pub decreases-loop-start : goal.decreases-loop-start
decreases-loop-start l = length l.text - l.start

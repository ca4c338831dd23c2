use Rattle.std.proofs.Common.{◌≡◌, drop}
use Rattle.ii_stemmer.specs.Rules.{apply_first, rules_of}
use Rattle.ii_stemmer.proofs.rules.apply_first.Given as goal

abbrev pub invariant-loop-rule : goal.invariant-loop-rule
invariant-loop-rule l = (l.word.items ≡ l.fn.word.items) × (apply_first (rules_of l.rules) l.word.items ≡ apply_first (rules_of (drop l.rule-index l.rules)) l.word.items)

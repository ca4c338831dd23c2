use Rattle.ii_stemmer.proofs.SuffixLemmas.{other_end}
use Rattle.ii_stemmer.proofs.rules.has_suffix.Goals as goal

pub returns-then-rule-n-clause-value : goal.returns-then-rule-n-clause-value
returns-then-rule-n-clause-value c = other_end c.args.word.now c.args.rule.now.suffix.now c.if-n-gt0.true c.if-n-word.true c.if-rule-n.true

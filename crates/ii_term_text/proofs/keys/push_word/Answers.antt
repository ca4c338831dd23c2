use Rattle.std.proofs.Common.{rules}
use Rattle.ii_term_text.proofs.KeyLemmas.{utf8_is}
use Rattle.ii_term_text.proofs.keys.push_word.Goals as goal

pub returns-in-Ok : goal.returns-in-Ok
returns-in-Ok c = rw (utf8_is (λ k. k) c.args.key.now c.in-Ok.ensures.cases.1) (search rules)

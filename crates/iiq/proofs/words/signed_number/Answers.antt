use Rattle.std.proofs.Common.{◌∙◌}
use Rattle.iiq.proofs.WordLemmas.{signed_read, signed_no_text, signed_plus}
use Rattle.iiq.proofs.words.signed_number.Goals as goal

pub returns-then-word-eq-PLUS : goal.returns-then-word-eq-PLUS
returns-then-word-eq-PLUS c = signed_plus c.args.word.now c.if-word-eq-PLUS.true

pub returns-in_default : goal.returns-in_default
returns-in_default c = signed_no_text c.args.word.now c.in_default.ensures.cases.0

pub returns : goal.returns
returns c = c.ok.ensures.value ∙ signed_read c.args.word.now c.in-Ok.text.now c.parse.result c.in-Ok.ensures.cases.0 c.parse.ensures.value.0 c.if-word-eq-PLUS.false c.if-is_empty.ensures

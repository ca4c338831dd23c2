use Rattle.std.proofs.Common.{◌∙◌, sym}
use Rattle.ii_term_text.proofs.KeyLemmas.{parts_lost}
use Rattle.ii_term_text.proofs.keys.split_key.Goals as goal

pub returns-in_default-from_code : goal.returns-in_default-from_code
returns-in_default-from_code c = parts_lost c.args.key.now c.split_at.result.1.now c.in-Some.place (sym c.zero_in.ensures ∙ c.in-Some.is) c.split_at.ensures.back c.if-rest-lt2.false c.in_default-from_code.ensures

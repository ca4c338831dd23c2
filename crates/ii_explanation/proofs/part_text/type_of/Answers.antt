use Rattle.ii_explanation.proofs.PartTextLemmas.{type_found}
use Rattle.ii_explanation.proofs.part_text.type_of.Goals as goal

pub returns : goal.returns
returns c = type_found c.args.letter c.from_code.result c.from_code.ensures

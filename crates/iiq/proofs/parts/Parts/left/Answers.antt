use Rattle.iiq.proofs.TextLemmas.{left_texts}
use Rattle.iiq.proofs.parts.Parts.left.Goals as goal

pub returns-clause-texts : goal.returns-clause-texts
returns-clause-texts c = left_texts c.args.separator c.args.rest

use Rattle.ii_living_docs.proofs.LivingLemmas.{living_parts}
use Rattle.ii_living_docs.proofs.living_docs.document_of.Goals as goal

pub returns-then-number-num_living : goal.returns-then-number-num_living
returns-then-number-num_living c = living_parts c.args.alive.now c.args.number c.select.result c.select.ensures.alive c.select.ensures.rank

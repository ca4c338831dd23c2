use Rattle.iiq.proofs.LeafLemmas.{leaf_is_call}
use Rattle.iiq.proofs.commands.leaf_call.Goals as goal

pub returns-clause-lawful : goal.returns-clause-lawful
returns-clause-lawful c = leaf_is_call c.in-Some.doc c.from_field_id.result c.in_ok-value.value c.from.result c.from_field_id.ensures c.from.ensures c.in-Some.ensures.below

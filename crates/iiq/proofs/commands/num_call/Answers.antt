use Rattle.iiq.proofs.SessionLemmas.{number_is_call}
use Rattle.iiq.proofs.commands.num_call.Goals as goal

pub returns-clause-lawful : goal.returns-clause-lawful
returns-clause-lawful c = number_is_call c.in-Some.doc c.from_field_id.result c.in-Some-last_number.number c.from.result c.from_field_id.ensures c.from.ensures c.in-Some.ensures.below

use Rattle.iiq.proofs.SessionLemmas.{text_is_call}
use Rattle.iiq.proofs.commands.text_call.Goals as goal

pub returns-clause-lawful : goal.returns-clause-lawful
returns-clause-lawful c = text_is_call c.in-Some-number_up_to.doc c.from_field_id.result c.in_ok-text.text c.from.result c.from_field_id.ensures c.from.ensures c.in-Some-number_up_to.ensures.below

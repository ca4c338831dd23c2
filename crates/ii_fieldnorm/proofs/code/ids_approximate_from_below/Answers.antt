use Rattle.ii_fieldnorm.proofs.NormLemmas.{table_is_norms, approximates_from_below}
use Rattle.ii_fieldnorm.proofs.code.ids_approximate_from_below.Goals as goal

pub returns-clause-table : goal.returns-clause-table
returns-clause-table c = table_is_norms

pub returns-clause-ids : goal.returns-clause-ids
returns-clause-ids c = approximates_from_below

use Rattle.std.proofs.Common.{arith}
use Rattle.ii_fieldnorm.proofs.NormLemmas.{norm_of_id-get_or}
use Rattle.ii_fieldnorm.proofs.code.id_to_fieldnorm.Goals as goal

pub returns : goal.returns
returns c = norm_of_id-get_or c.args.id (omega arith)

use Rattle.ii_termdict.proofs.LeastKey.{first_infos}
use Rattle.ii_termdict.proofs.merger.first_infos_are_all.Goals as goal

pub returns : goal.returns
returns c = first_infos

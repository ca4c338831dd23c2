use Rattle.ii_io.specs.Vints.{u64_at}
use Rattle.ii_io.proofs.vint.read_u64.Goals as goal

pub returns-clause-value : goal.returns-clause-value
unfolding u64_at
returns-clause-value c = c.read_groups.ensures.value

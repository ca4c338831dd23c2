use Rattle.ii_io.specs.VintLemmas.{spells_in_fewest as law}
use Rattle.ii_io.proofs.vint.spells_in_fewest.Goals as goal

pub returns-clause-u32 : goal.returns-clause-u32
returns-clause-u32 c = law 4

pub returns-clause-u64 : goal.returns-clause-u64
returns-clause-u64 c = law 9

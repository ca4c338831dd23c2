use Rattle.std.proofs.Common.{◌^◌}
use Rattle.ii_io.specs.VintLemmas.{reads_what_is_spelled as law}
use Rattle.ii_io.proofs.vint.reads_what_is_spelled.Goals as goal

pub returns-clause-u32 : goal.returns-clause-u32
returns-clause-u32 c = law 5 (2 ^ 32)

pub returns-clause-u64 : goal.returns-clause-u64
returns-clause-u64 c = law 10 (2 ^ 64)

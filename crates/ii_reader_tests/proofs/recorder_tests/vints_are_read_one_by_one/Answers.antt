use Rattle.std.proofs.Common.{refl}
use Rattle.ii_io.specs.Vints.{u32_at}
use Rattle.ii_reader_tests.proofs.recorder_tests.vints_are_read_one_by_one.Goals as goal

pub new-requires : goal.new-requires
unfolding u32_at
new-requires g c = refl

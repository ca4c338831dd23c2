use Rattle.ii_layout.proofs.PositionLaws.{reads_positions_back as law}
use Rattle.ii_layout.proofs.written.reads_positions_back.Goals as goal

pub returns : goal.returns
returns c = law

use Rattle.ii_layout.proofs.WrittenLaws.{reads_uncounted_back as law}
use Rattle.ii_layout.proofs.written.reads_uncounted_back.Goals as goal

pub returns : goal.returns
returns c = law

use Rattle.ii_layout.proofs.WrittenLaws.{reads_postings_back as law}
use Rattle.ii_layout.proofs.written.reads_postings_back.Goals as goal

pub returns : goal.returns
returns c = law

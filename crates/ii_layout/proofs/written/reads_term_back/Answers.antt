use Rattle.ii_layout.proofs.TermLaws.{reads_term_back as law}
use Rattle.ii_layout.proofs.written.reads_term_back.Goals as goal

pub returns : goal.returns
returns c = law

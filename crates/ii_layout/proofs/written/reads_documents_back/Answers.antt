use Rattle.ii_layout.proofs.WrittenLaws.{reads_documents_back as law}
use Rattle.ii_layout.proofs.written.reads_documents_back.Goals as goal

pub returns : goal.returns
returns c = law

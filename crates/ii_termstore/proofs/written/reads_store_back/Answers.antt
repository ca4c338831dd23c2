use Rattle.ii_termstore.proofs.ReadStoreLemmas.{reads_store_back as law}
use Rattle.ii_termstore.proofs.written.reads_store_back.Goals as goal

pub returns : goal.returns
returns c = law c.reads_from_its_place.ensures c.holds_from_least_width.ensures

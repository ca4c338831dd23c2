use Rattle.ii_recorder.proofs.PushedEntries.{reads_entries_back as law}
use Rattle.ii_recorder.proofs.held_terms.reads_entries_back.Goals as goal

pub returns : goal.returns
returns c = law c.reads_term_back.ensures

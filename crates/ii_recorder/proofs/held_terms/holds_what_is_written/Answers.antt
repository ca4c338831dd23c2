use Rattle.ii_recorder.proofs.HeldTermLemmas.{holds_what_is_written as law}
use Rattle.ii_recorder.proofs.held_terms.holds_what_is_written.Goals as goal

pub returns : goal.returns
returns c = law c.reads_dictionary_back.ensures

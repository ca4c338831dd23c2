use Rattle.ii_recorder.proofs.HeldTermLemmas.{holds_each_term as law}
use Rattle.ii_recorder.proofs.held_terms.holds_each_term.Goals as goal

pub returns : goal.returns
returns c = law

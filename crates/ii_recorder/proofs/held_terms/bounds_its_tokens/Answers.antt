use Rattle.ii_recorder.proofs.TokenLaws.{bounds_its_tokens as law}
use Rattle.ii_recorder.proofs.held_terms.bounds_its_tokens.Goals as goal

pub returns : goal.returns
returns c = law c.bounds_what_is_written.ensures.read

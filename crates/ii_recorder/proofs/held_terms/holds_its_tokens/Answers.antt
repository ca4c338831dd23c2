use Rattle.ii_recorder.proofs.TokenLaws.{holds_its_tokens as law}
use Rattle.ii_recorder.proofs.held_terms.holds_its_tokens.Goals as goal

pub returns : goal.returns
returns c = law c.reads_entries_back.ensures c.reads_uncounted_term_back.ensures

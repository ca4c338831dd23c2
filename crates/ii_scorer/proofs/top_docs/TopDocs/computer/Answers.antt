use Rattle.ii_scorer.proofs.TopNLemmas.{none_kept}
use Rattle.ii_scorer.proofs.top_docs.TopDocs.computer.Goals as goal

pub returns-clause-none : goal.returns-clause-none
returns-clause-none c = rw c.new.ensures (none_kept c.saturating_add.result)

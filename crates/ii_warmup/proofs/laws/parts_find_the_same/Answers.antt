use Rattle.ii_warmup.proofs.SameLemmas.{parts_are_same, parts_find_the_same}
use Rattle.ii_warmup.proofs.laws.parts_find_the_same.Goals as goal

pub returns-clause-same : goal.returns-clause-same
returns-clause-same c = parts_are_same

pub returns-clause-found : goal.returns-clause-found
returns-clause-found c = parts_find_the_same

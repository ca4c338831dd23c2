use Rattle.ii_directory.proofs.NameLaws.{same_is, same_itself}
use Rattle.ii_directory.proofs.name.same_names.Goals as goal

pub returns-clause-same : goal.returns-clause-same
returns-clause-same c = same_is

pub returns-clause-itself : goal.returns-clause-itself
returns-clause-itself c = same_itself

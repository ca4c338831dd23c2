use Rattle.ii_directory.proofs.NameLaws.{texts_differ}
use Rattle.ii_directory.proofs.name.names_differ.Goals as goal

pub returns : goal.returns
returns c = record { differ = texts_differ }

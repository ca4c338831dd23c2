use Rattle.std.proofs.Common.{◌≡◌}
use Rattle.nequllpa_opening.specs.Ids.{first_above_one as the_first_above_one}
use Rattle.nequllpa_opening.proofs.IdsLemmas.{left_above_one}
use Rattle.nequllpa_opening.proofs.ids.first_above_one.Given as goal

abbrev pub invariant-loop-doc : goal.invariant-loop-doc
invariant-loop-doc l = left_above_one l.norms l.alive l.doc ≡ the_first_above_one l.norms l.alive

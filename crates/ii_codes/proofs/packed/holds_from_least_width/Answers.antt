use Rattle.ii_codes.proofs.WidthLemmas.{holds_from_least_width as law}
use Rattle.ii_codes.proofs.packed.holds_from_least_width.Goals as goal

pub returns : goal.returns
returns c = law

use Rattle.ii_ram.proofs.BoundLaws as laws
use Rattle.ii_ram.proofs.bounds.opens_true_bounds.Goals as goal

pub returns : goal.returns
returns c = laws.opens_true_bounds

-- Documents are below 2 ^ 31, so there are fewer of them.
use Rattle.std.proofs.Common.{◌≡◌, ◌<◌, ℕ, arith, true, List, length}
use Rattle.ii_base.proofs.AscentLemmas.{ascent_below}
use Rattle.ii_base.specs.Entries.{are_documents}

pub few_documents : (docs : List ℕ) → are_documents docs ≡ true → length docs < 2147483648
few_documents docs h = let below = ascent_below 0 docs h (omega arith) in omega arith

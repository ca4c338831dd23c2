-- A field without norms.
use Rattle.std.proofs.Common.{◌≡◌, ℕ, [], ◌∷◌, List, Option, None}
use Rattle.std.specs.List.{AllByRecursion}
use Rattle.ii_fieldnorm.specs.Readers.{Norms}
use Rattle.ii_layout.specs.Bounds.{Covers}

-- where no norms are known, all documents are covered
pub none_lacking : (norms : Option Norms) (docs : List ℕ) → norms ≡ None → AllByRecursion (Covers norms) docs
none_lacking norms [] is = tt
none_lacking norms (d ∷ ds) is = (rw is tt, none_lacking norms ds is)

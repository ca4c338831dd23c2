-- An index in the files that a stop leaves.
use Rattle.std.proofs.Common.{◌≡◌, ◌∙◌, Ok}
use Rattle.ii_directory.specs.Directory.{Files, Same}
use Rattle.ii_store.specs.Index.{Index, index_of}
use Rattle.ii_store.specs.Save.{HoldsIndex}
use Rattle.ii_store.proofs.SaveLaws.{index_of_same}

-- files that are the same hold the same index
pub kept_after : (a c : Files) (i : Index) → HoldsIndex i a → Same a c → index_of c ≡ Ok i
kept_after a c i holds same = index_of_same a c same ∙ holds

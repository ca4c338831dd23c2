use Rattle.std.proofs.Common.{ℕ, List, ◌++◌, length, ap}
use Rattle.std.proofs.lemmas.List.{drop-replicate}
use Rattle.ii_codes.proofs.packed.padded_block.Goals as goal

pub returns : goal.returns
returns c = rw c.copy_from_slice.ensures.after (ap (λ (xs : List ℕ). c.args.bytes.now ++ xs) (drop-replicate (length c.args.bytes.now) 528 0))

use Rattle.std.proofs.Common.{◌≡◌, take}
use Rattle.ii_codes.specs.Packed.{num_bits, least_width}
use Rattle.ii_codes.proofs.packed.least_width_of.Given as goal

abbrev pub invariant-loop-entry : goal.invariant-loop-entry
invariant-loop-entry l = num_bits l.all ≡ least_width (take l.entry-index l.entries)

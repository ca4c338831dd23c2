-- How many blocks are counted when a list is validated.
use Rattle.std.proofs.Common.{ℕ, zero, suc, ◌≤◌, min, arith}
use Rattle.ii_codes.specs.BlockDecoder.{decodes_of}

pub decodes_low : (m : ℕ) → decodes_of m ≤ min 1 m
decodes_low zero = omega arith
decodes_low (suc m) = omega arith

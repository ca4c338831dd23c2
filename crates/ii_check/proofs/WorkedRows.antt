-- Worked rows: how many blocks are decoded to validate a list, and which blocks a cursor decoded.
use Rattle.std.proofs.Common.{◌≡◌, ◌≤◌, [], ◌∷◌, refl, arith}
use Rattle.ii_check.specs.declared.freq_reading_option.FreqReadingOption.TheVariants.{NoFreq, SkipFreq, ReadFreq}
use Rattle.ii_check.specs.declared.validation.Validation.TheVariants.{Complete, Skipped}
use Rattle.ii_check.specs.CheckedBlocks.{blocks_checked, blocks_found, counts_checked, freqs_checked, no_blocks, num_blocks}
use Rattle.ii_check.specs.DecodedBlocks.{AscendWithin, logged}

-- 300 documents are two full blocks and one of 44
pub row_blocks : num_blocks 300 ≡ 3
row_blocks = refl

pub row_full : num_blocks 256 ≡ 2
row_full = refl

-- each of them is decoded, and the first one once more for the cursor
pub row_checked : counts_checked Complete ReadFreq 300 ≡ record { docs = 3; freqs = 3 }
row_checked = refl

-- term frequencies that aren't read aren't validated
pub row_unread : counts_checked Complete SkipFreq 300 ≡ record { docs = 3; freqs = 0 }
row_unread = refl

pub row_none : freqs_checked Complete NoFreq 300 ≡ 0
row_none = refl

-- a list of one block is decoded once, for both
pub row_short : counts_checked Complete ReadFreq 127 ≡ no_blocks
row_short = refl

pub row_long : blocks_checked Complete 128 ≡ 1
row_long = refl

-- a list that is known isn't validated
pub row_known : counts_checked Skipped ReadFreq 300 ≡ no_blocks
row_known = refl

-- what finding it decodes: a list of one block is always decoded
pub row_found : blocks_found Skipped 127 ≡ 1
row_found = refl

pub row_found_long : blocks_found Skipped 300 ≡ 0
row_found_long = refl

-- a decode adds the number of its block, unless the block is empty
pub row_logged : logged 2 44 ≡ 2 ∷ []
row_logged = refl

pub row_empty : logged 3 0 ≡ []
row_empty = refl

-- blocks 0, 2 and 3 were decoded once each; block 2 twice is refused
pub row_once : AscendWithin 0 3 (0 ∷ 2 ∷ 3 ∷ [])
row_once = (omega arith, omega arith, (omega arith, omega arith, (omega arith, omega arith, tt)))

pub row_twice : AscendWithin 0 3 (0 ∷ 2 ∷ 2 ∷ []) → 3 ≤ 2
row_twice ascend = ascend.2.2.0

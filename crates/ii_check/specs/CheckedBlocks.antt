-- How many blocks are decoded to validate a list.
use Rattle.std.specs.Prelude.{ℕ, ◌+◌, ◌/◌, nat_lt, if◌then◌else◌}
use Rattle.ii_check.specs.declared.freq_reading_option.FreqReadingOption.{FreqReadingOption}
use Rattle.ii_check.specs.declared.validation.Validation.{Validation}
use Rattle.ii_check.specs.declared.validation.Validation.TheVariants.{Complete, Skipped}
use Rattle.ii_check.specs.CheckedPostings.{is_read}

-- the number of blocks of a list of n documents, the last of which may have fewer than 128
abbrev pub num_blocks : ℕ → ℕ
num_blocks n = (n + 127) / 128

-- how many blocks are decoded to validate a list of n documents, besides the first, which stays decoded; a list of one block is decoded once
abbrev pub blocks_checked : Validation → ℕ → ℕ
blocks_checked Complete n = if nat_lt n 128 then 0 else num_blocks n
blocks_checked Skipped n = 0

-- the same for term frequencies, which are validated if they are read
abbrev pub freqs_checked : Validation → FreqReadingOption → ℕ → ℕ
freqs_checked Complete reading n = if is_read reading then blocks_checked Complete n else 0
freqs_checked Skipped reading n = 0

-- how many blocks of documents and of term frequencies were decoded to validate a list
pub record BlockCounts : Type 0 where
  pub docs : ℕ
  pub freqs : ℕ

-- these counts of a list of n documents
abbrev pub counts_checked : Validation → FreqReadingOption → ℕ → BlockCounts
counts_checked validation reading n = record { docs = blocks_checked validation n; freqs = freqs_checked validation reading n }

-- the counts of a list that wasn't validated
abbrev pub no_blocks : BlockCounts
no_blocks = record { docs = 0; freqs = 0 }

-- how many blocks are decoded to find a list: all of them, or only one of a list of one block
abbrev pub blocks_found : Validation → ℕ → ℕ
blocks_found Complete n = num_blocks n
blocks_found Skipped n = if nat_lt n 128 then num_blocks n else 0

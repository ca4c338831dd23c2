-- The texts of scores and weights.
use Rattle.std.specs.Prelude.{ℕ, ◌+◌, ◌*◌, ◌/◌, ◌%◌, ◌^◌, List, ◌++◌, codes, decimal}

-- a number of ten thousandths, with four decimals
abbrev pub four_decimals : ℕ → List ℕ
four_decimals n = decimal (n / 10000) ++ codes "." ++ decimal (n / 1000 % 10) ++ decimal (n / 100 % 10) ++ decimal (n / 10 % 10) ++ decimal (n % 10)

-- a score or a share of one, given in units of 2^-38, to the nearest ten thousandth
abbrev pub score_text : ℕ → List ℕ
score_text units = four_decimals ((units * 10000 + 2 ^ 37) / 2 ^ 38)

-- a weight, given in units of 2^-22, to the nearest ten thousandth
abbrev pub weight_text : ℕ → List ℕ
weight_text units = four_decimals ((units * 10000 + 2 ^ 21) / 2 ^ 22)

-- Dates: instants in nanoseconds since 1970-01-01T00:00:00Z, and their texts.
use Rattle.std.specs.Prelude.{ℕ, suc, ◌+◌, ◌-◌, ◌*◌, ◌/◌, ◌%◌, ◌^◌, ℤ, pos, negsuc, ◌+ℤ◌, unsigned_abs, List, [], ◌∷◌, ◌++◌, Option, None, Some, option_and_then, nat_lt, if◌then◌else◌}
use Rattle.std.specs.Int.{int_div_euclid, int_rem_euclid}
use Rattle.std.specs.Result.{result_ok}
use Rattle.jiff_fmt.specs.Temporal.{parse_timestamp}
use Rattle.jiff_fmt.specs.Text.{fraction_part, pad2, pad4}

-- an instant whose nanoseconds fit `i64`: from 1677-09-21T00:12:43.145224192Z to 2262-04-11T23:47:16.854775807Z
abbrev pub in_range : ℤ → Option ℤ
in_range (pos n) = if nat_lt n (2 ^ 63) then Some (pos n) else None
in_range (negsuc n) = if nat_lt n (2 ^ 63) then Some (negsuc n) else None

-- the date that a text spells
unfoldable pub date_in : List ℕ → Option ℤ
date_in text = option_and_then in_range (result_ok (parse_timestamp text))

-- the days since 1 March of the year 0
abbrev pub days_of : ℤ → ℕ
days_of z = unsigned_abs (int_div_euclid z (pos 86_400_000_000_000) +ℤ pos 719_468)

-- the nanoseconds since midnight
abbrev pub nanos_of_day : ℤ → ℕ
nanos_of_day z = unsigned_abs (int_rem_euclid z (pos 86_400_000_000_000))

-- A day of a year that begins on 1 March, so that a leap day is its last: the days before it in its year.
pub record MarchDay : Type 0 where
  pub year : ℕ
  pub day : ℕ

-- the days of the last century that has begun
abbrev pub days_of_century : ℕ → ℕ
days_of_century n = (4 * n + 3) % 146_097 / 4

-- the day after so many days: four centuries have 146,097 days, and four years of a century 1,461
abbrev pub march_day : ℕ → MarchDay
march_day n = record {
  year = (4 * n + 3) / 146_097 * 100 + (4 * days_of_century n + 3) / 1_461;
  day = (4 * days_of_century n + 3) % 1_461 / 4;
}

-- the month of a day, from 3 for March to 14 for February: five months from March or August on have 153 days
abbrev pub march_month : MarchDay → ℕ
march_month d = (5 * d.day + 461) / 153

-- the year of a day
abbrev pub civil_year : MarchDay → ℕ
civil_year d = if nat_lt 12 (march_month d) then suc d.year else d.year

-- the month of a day, from 1
abbrev pub civil_month : MarchDay → ℕ
civil_month d = if nat_lt 12 (march_month d) then march_month d - 12 else march_month d

-- the day of the month, from 1
abbrev pub day_of_month : MarchDay → ℕ
day_of_month d = (5 * d.day + 461) % 153 / 5 + 1

-- a day as text: `1990-01-31`
abbrev pub day_text : MarchDay → List ℕ
day_text d = pad4 (civil_year d) ++ 45 ∷ [] ++ pad2 (civil_month d) ++ 45 ∷ [] ++ pad2 (day_of_month d)

-- nanoseconds since midnight as text: `23:59:07.25`, with the digits of the fraction up to the last that isn't 0
abbrev pub clock_text : ℕ → List ℕ
clock_text n =
    pad2 (n / 3_600_000_000_000) ++ 58 ∷ pad2 (n / 60_000_000_000 % 60) ++ 58 ∷ pad2 (n / 1_000_000_000 % 60)
    ++ fraction_part None (n % 1_000_000_000)

-- the text of a date in UTC: `1990-01-31T23:59:07.25Z`
unfoldable pub date_text : ℤ → List ℕ
date_text z = day_text (march_day (days_of z)) ++ 84 ∷ clock_text (nanos_of_day z) ++ 90 ∷ []

-- What is printed of a date is read back.
use Rattle.std.proofs.Common.{◌≡◌, ℕ, suc, ◌+◌, ◌-◌, ◌*◌, ◌/◌, ◌%◌, ◌^◌, ◌<◌, ◌≤◌, ◌++◌, Bool, List, ℤ, pos, negsuc, ◌+ℤ◌, FitsSigned, nat_lt, true, false, arith, ap, refl, sym, ◌∙◌, subst, None, Some, Ok, int_lt}
use Rattle.std.specs.Int.{int_div_euclid, int_rem_euclid, w64, w128}
use Rattle.std.proofs.lemmas.Bool.Decides.{nat_tests}
use Rattle.std.proofs.lemmas.List.{append_assoc}
use Rattle.jiff_core.specs.declared.civil.date.Date.{Date}
use Rattle.jiff_core.specs.declared.civil.time.Time.{Time}
use Rattle.jiff_core.specs.declared.civil.datetime.DateTime.{DateTime}
use Rattle.jiff_core.specs.declared.timestamp.Timestamp.{Timestamp}
use Rattle.jiff_core.specs.Calendar.{IsCivilDate, day_count}
use Rattle.jiff_core.specs.Date.{epoch_day}
use Rattle.jiff_core.specs.Time.{time_nanos}
use Rattle.jiff_core.specs.DateTime.{civil_nanos}
use Rattle.jiff_core.specs.March.{march_days}
use Rattle.jiff_core.proofs.SignedLemmas.{one_part, signed_arith}
use Rattle.jiff_core.proofs.CalendarLemmas.{days_from_civil-day_count}
use Rattle.jiff_core.proofs.DateLemmas.{epoch_day_injective}
use Rattle.jiff_core.proofs.DateTimeLemmas.{civil_nanos-parts, civil_nanos_injective, time_nanos_injective}
use Rattle.jiff_core.proofs.MarchLemmas.{day_count-early, day_count-late, day_in_early_month, day_in_month, march_days-suc, month_and_day}
use Rattle.jiff_fmt.specs.Text.{datetime_text, zulu_text}
use Rattle.jiff_fmt.specs.Temporal.{parse_timestamp}
use Rattle.jiff_fmt.specs.Printer.{datetime_text as printed_text, options}
use Rattle.jiff_fmt.specs.declared.temporal.printer.DateTimePrinter.{DateTimePrinter}
use Rattle.jiff_fmt.proofs.RoundTrip.{parse_timestamp-text}
use Rattle.ii_dates.specs.Dates.{MarchDay, civil_month, civil_year, date_in, date_text, day_of_month, days_of, in_range, march_day, march_month, nanos_of_day}

-- A day of a year that begins in March is the nth since 1 March of the year 0.
record IsDay (n : ℕ) (d : MarchDay) : Type 0 where
  days : march_days d.year + d.day ≡ n
  next : n < march_days (suc d.year)
  within : d.day < 366
  small : d.year < 3_000

is_day : (n : ℕ) → n < 1_000_000 → IsDay n (march_day n)
is_day n h = record { days = omega arith; next = omega arith; within = omega arith; small = omega arith }

-- its year, month and day of the month are a date of the calendar, on that day
civil_day : (n : ℕ) (d : MarchDay) → IsDay n d → IsCivilDate (pos (civil_year d)) (civil_month d) (day_of_month d) × (day_count (pos (civil_year d)) (civil_month d) (day_of_month d) ≡ n + 3_652_485)
civil_day n d is = by_month (nat_lt 12 (march_month d)) refl
  where
    from_start : march_days (d.year + 10_000) ≡ march_days d.year + 3_652_425
    from_start = omega arith

    by_month : (early : Bool) → nat_lt 12 (march_month d) ≡ early → IsCivilDate (pos (civil_year d)) (civil_month d) (day_of_month d) × (day_count (pos (civil_year d)) (civil_month d) (day_of_month d) ≡ n + 3_652_485)
    by_month true e =
        let late : 12 < (5 * d.day + 461) / 153 = grind (arith, nat_tests, e) in
        let leap = march_days-suc d.year in
        let back : (5 * d.day + 461) / 153 - 12 + 12 ≡ (5 * d.day + 461) / 153 = omega arith in
        let count = day_count-early (pos (suc d.year)) (d.year + 10_000) ((5 * d.day + 461) / 153 - 12) ((5 * d.day + 461) % 153 / 5 + 1) (omega (arith, signed_arith)) (omega arith) (omega (arith, is.within)) (omega arith) in
        let month = month_and_day d.day is.within in
        let fits = day_in_early_month (pos (suc d.year)) d.day late (omega (arith, leap, is.days, is.next)) in
        rw e (((omega (arith, signed_arith), omega (arith, signed_arith, is.small)), (omega arith, omega (arith, is.within)), (omega arith, fits)), omega (arith, rw back at count, month, from_start, is.days))
    by_month false e =
        let early : (5 * d.day + 461) / 153 ≤ 12 = grind (arith, nat_tests, e) in
        let count = day_count-late (pos d.year) (d.year + 10_000) ((5 * d.day + 461) / 153) ((5 * d.day + 461) % 153 / 5 + 1) (omega (arith, signed_arith)) (omega arith) early (omega arith) in
        let month = month_and_day d.day is.within in
        let fits = day_in_month (pos d.year) d.day early in
        rw e (((omega (arith, signed_arith), omega (arith, signed_arith, is.small)), (omega arith, omega arith), (omega arith, fits)), omega (arith, count, month, from_start, is.days))

-- the day of a date in range
days_small : (z : ℤ) → FitsSigned w64 z → (days_of z < 1_000_000) × (pos (days_of z) ≡ int_div_euclid z (pos 86_400_000_000_000) +ℤ pos 719_468)
days_small z fits =
    let either = one_part (int_div_euclid z (pos 86_400_000_000_000) +ℤ pos 719_468) in
    (omega (arith, signed_arith, fits, either), omega (arith, signed_arith, fits, either))

-- the calendar's date of an instant
date_at : (z : ℤ) → FitsSigned w64 z → Date
date_at z fits =
    let civil = civil_day (days_of z) (march_day (days_of z)) (is_day (days_of z) (days_small z fits).0) in
    record {
      year = pos (civil_year (march_day (days_of z)));
      month = civil_month (march_day (days_of z));
      day = day_of_month (march_day (days_of z));
      year_in = civil.0.0;
      month_in = civil.0.1;
      day_in = civil.0.2;
    }

nanos_bound : (z : ℤ) → nanos_of_day z < 86_400_000_000_000
nanos_bound z =
    let either = one_part (int_rem_euclid z (pos 86_400_000_000_000)) in
    omega (arith, signed_arith, either)

-- its time of day
time_at : (z : ℤ) → Time
time_at z =
    let n = nanos_of_day z in
    let bound = nanos_bound z in
    record {
      hour = n / 3_600_000_000_000;
      minute = n / 60_000_000_000 % 60;
      second = n / 1_000_000_000 % 60;
      subsec_nanosecond = n % 1_000_000_000;
      hour_in = omega arith;
      minute_in = omega arith;
      second_in = omega arith;
      subsec_in = omega arith;
    }

-- both
civil_at : (z : ℤ) → FitsSigned w64 z → DateTime
civil_at z fits = record { date = date_at z fits; time = time_at z }

time_at_is : (z : ℤ) → time_nanos (time_at z) ≡ nanos_of_day z
unfolding time_at
time_at_is z = let bound = nanos_bound z in omega (arith, bound)

date_at_is : (z : ℤ) (fits : FitsSigned w64 z) → epoch_day (date_at z fits) ≡ int_div_euclid z (pos 86_400_000_000_000)
unfolding date_at
date_at_is z fits =
    let civil = civil_day (days_of z) (march_day (days_of z)) (is_day (days_of z) (days_small z fits).0) in
    omega (arith, signed_arith, days_from_civil-day_count (pos (civil_year (march_day (days_of z)))) (civil_month (march_day (days_of z))) (day_of_month (march_day (days_of z))), civil.1, (days_small z fits).1)

-- are that instant
civil_at_is : (z : ℤ) (fits : FitsSigned w64 z) → civil_nanos (civil_at z fits) ≡ z
unfolding civil_at
civil_at_is z fits =
    let either = one_part (int_rem_euclid z (pos 86_400_000_000_000)) in
    omega (arith, signed_arith, civil_nanos-parts (civil_at z fits), date_at_is z fits, time_at_is z, either)

-- the text of a date is that of its civil date and time, and `Z`
text_is : (z : ℤ) (fits : FitsSigned w64 z) → datetime_text false 84 None (civil_at z fits) ++ zulu_text false ≡ date_text z
unfolding date_text civil_at date_at time_at
text_is z fits = simp append_assoc refl

-- each instant fits 128 bits
pub timestamp_fits : (t : Timestamp) → FitsSigned w128 t.nanosecond
timestamp_fits t = omega (arith, signed_arith, t.in_range)

pub fits_between_ends : (z : ℤ) → int_lt z (negsuc (2 ^ 63 - 1)) ≡ false → int_lt (pos (2 ^ 63 - 1)) z ≡ false → FitsSigned w64 z
fits_between_ends z low high = omega (arith, signed_arith, low, high)

-- an instant before the first date or after the last is none
pub before_dates : (z : ℤ) → int_lt z (negsuc (2 ^ 63 - 1)) ≡ true → in_range z ≡ None
before_dates (pos n) below = absurd (omega (arith, signed_arith, below))
before_dates (negsuc n) below =
    let low : 2 ^ 63 ≤ n = omega (arith, signed_arith, below) in
    let out : nat_lt n (2 ^ 63) ≡ false = grind (arith, nat_tests) in
    rw out refl

pub after_dates : (z : ℤ) → int_lt (pos (2 ^ 63 - 1)) z ≡ true → in_range z ≡ None
after_dates (pos n) above =
    let high : 2 ^ 63 ≤ n = omega (arith, signed_arith, above) in
    let out : nat_lt n (2 ^ 63) ≡ false = grind (arith, nat_tests) in
    rw out refl
after_dates (negsuc n) above = absurd (omega (arith, signed_arith, above))

timestamp_of : (z : ℤ) → FitsSigned w64 z → Timestamp
timestamp_of z fits = record { nanosecond = z; in_range = (omega (arith, signed_arith, fits), omega (arith, signed_arith, fits)) }

pub in_range_fits : (z : ℤ) → FitsSigned w64 z → in_range z ≡ Some z
in_range_fits (pos n) fits =
    let small : nat_lt n (2 ^ 63) ≡ true = grind (arith, nat_tests, fits.sfits) in
    rw small refl
in_range_fits (negsuc n) fits =
    let small : nat_lt n (2 ^ 63) ≡ true = grind (arith, nat_tests, fits.sfits) in
    rw small refl

-- the text of a date is read back as that date
pub date_read_back : (z : ℤ) → FitsSigned w64 z → date_in (date_text z) ≡ Some z
unfolding date_in timestamp_of
date_read_back z fits =
    let read = parse_timestamp-text (civil_at z fits) (timestamp_of z fits) (civil_at_is z fits) in
    let text = subst (λ t. parse_timestamp t ≡ Ok z) (text_is z fits) read in
    rw text (in_range_fits z fits)

-- two civil dates and times of one instant are the same text
same_civil : (a b : DateTime) → civil_nanos a ≡ civil_nanos b → datetime_text false 84 None a ≡ datetime_text false 84 None b
same_civil a b e =
    let both = civil_nanos_injective a b e in
    let date = epoch_day_injective a.date b.date both.0 in
    let time = time_nanos_injective a.time b.time both.1 in
    rw (date.0, date.1, date.2, time.0, time.1, time.2, time.3)

-- what a printer writes of the instant is the text of the date
pub printed_is : (p : DateTimePrinter) (z : ℤ) (text : List ℕ) → options p ≡ (false, 84, None) → FitsSigned w64 z → (dt : DateTime) → civil_nanos dt ≡ z → text ≡ printed_text p dt ++ zulu_text p.lowercase → text ≡ date_text z
printed_is p z text o fits dt is printed =
    let lower : p.lowercase ≡ false = ap (λ x. x.0) o in
    let separator : p.separator ≡ 84 = ap (λ x. x.1) o in
    let precision : p.precision ≡ None = ap (λ x. x.2) o in
    let shown : text ≡ datetime_text false 84 None dt ++ zulu_text false = rw (lower, separator, precision) at printed in
    let same = same_civil dt (civil_at z fits) (is ∙ sym (civil_at_is z fits)) in
    shown ∙ ap (λ x. x ++ zulu_text false) same ∙ text_is z fits

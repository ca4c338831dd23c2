-- Dates and their texts, by hand and from the examples of RFC 3339.
use Rattle.std.proofs.Common.{◌≡◌, [], ◌∷◌, ◌-◌, ◌^◌, None, Some, codes, map, neg_ℤ, pos, negsuc, refl}
use Rattle.ii_dates.specs.Dates.{date_in, date_text}
use Rattle.ii_dates.proofs.OnLiterals.{dates_on_literals}

-- the first instants of 1990 and of 2001
pub read_1990 : date_in (codes "1990-01-01T00:00:00Z") ≡ Some (pos 631_152_000_000_000_000)
unfolding dates_on_literals
read_1990 = refl

pub read_2001 : date_in (codes "2001-01-01T00:00:00Z") ≡ Some (pos 978_307_200_000_000_000)
unfolding dates_on_literals
read_2001 = refl

pub printed_1990 : date_text (pos 631_152_000_000_000_000) ≡ codes "1990-01-01T00:00:00Z"
unfolding dates_on_literals
printed_1990 = refl

pub printed_2001 : date_text (pos 978_307_200_000_000_000) ≡ codes "2001-01-01T00:00:00Z"
unfolding dates_on_literals
printed_2001 = refl

-- the nanosecond before 1970
pub printed_before_1970 : date_text (negsuc 0) ≡ codes "1969-12-31T23:59:59.999999999Z"
unfolding dates_on_literals
printed_before_1970 = refl

-- RFC 3339, section 5.8: a fraction, an offset, a leap second (which is the second before it), a time before 1970
pub read_fraction : date_in (codes "1985-04-12T23:20:50.52Z") ≡ Some (pos 482_196_050_520_000_000)
unfolding dates_on_literals
read_fraction = refl

pub printed_fraction : date_text (pos 482_196_050_520_000_000) ≡ codes "1985-04-12T23:20:50.52Z"
unfolding dates_on_literals
printed_fraction = refl

pub read_offset : date_in (codes "1996-12-19T16:39:57-08:00") ≡ Some (pos 851_042_397_000_000_000)
unfolding dates_on_literals
read_offset = refl

pub printed_offset : date_text (pos 851_042_397_000_000_000) ≡ codes "1996-12-20T00:39:57Z"
unfolding dates_on_literals
printed_offset = refl

pub read_leap_second : date_in (codes "1990-12-31T23:59:60Z") ≡ Some (pos 662_687_999_000_000_000)
unfolding dates_on_literals
read_leap_second = refl

pub read_old : date_in (codes "1937-01-01T12:00:27.87+00:20") ≡ Some (neg_ℤ (pos 1_041_337_172_130_000_000))
unfolding dates_on_literals
read_old = refl

-- a leap day
pub printed_leap_day : date_text (pos 951_782_400_000_000_000) ≡ codes "2000-02-29T00:00:00Z"
unfolding dates_on_literals
printed_leap_day = refl

-- a space for the `T`, and RFC 9557's time zone, which changes nothing
pub read_others : map date_in (codes "1990-01-01 00:00:00Z" ∷ codes "1990-01-01T01:00:00+01:00[Europe/Berlin]" ∷ [])
    ≡ Some (pos 631_152_000_000_000_000) ∷ Some (pos 631_152_000_000_000_000) ∷ []
unfolding dates_on_literals
read_others = refl

-- no date: without an offset, without a time, a day that no calendar has, a text behind the date, no text
pub refused : map date_in (codes "1990-01-01T00:00:00" ∷ codes "1990-01-01" ∷ codes "2023-02-29T00:00:00Z" ∷ codes "1990-01-01T00:00:00Z " ∷ codes "" ∷ [])
    ≡ None ∷ None ∷ None ∷ None ∷ None ∷ []
unfolding dates_on_literals
refused = refl

-- the first and the last date, and the instants next to them, which are out of range
pub read_ends : map date_in (codes "1677-09-21T00:12:43.145224192Z" ∷ codes "2262-04-11T23:47:16.854775807Z" ∷ [])
    ≡ Some (negsuc (2 ^ 63 - 1)) ∷ Some (pos (2 ^ 63 - 1)) ∷ []
unfolding dates_on_literals
read_ends = refl

pub read_beyond : map date_in (codes "1677-09-21T00:12:43.145224191Z" ∷ codes "2262-04-11T23:47:16.854775808Z" ∷ codes "9999-12-31T00:00:00Z" ∷ []) ≡ None ∷ None ∷ None ∷ []
unfolding dates_on_literals
read_beyond = refl

pub printed_ends : map date_text (negsuc (2 ^ 63 - 1) ∷ pos (2 ^ 63 - 1) ∷ []) ≡ codes "1677-09-21T00:12:43.145224192Z" ∷ codes "2262-04-11T23:47:16.854775807Z" ∷ []
unfolding dates_on_literals
printed_ends = refl
